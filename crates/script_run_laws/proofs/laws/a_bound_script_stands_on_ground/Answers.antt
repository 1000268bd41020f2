use Rattle.script_run_laws.proofs.Standing.{stands-on-ground}
use Rattle.script_run_laws.proofs.laws.a_bound_script_stands_on_ground.Goals as goal

pub returns : goal.returns
returns c = stands-on-ground
