use Rattle.script_run_laws.proofs.TakesAny.{takes-over}
use Rattle.script_run_laws.proofs.laws.a_bound_script_takes_any_block_at_its_target.Goals as goal

pub returns : goal.returns
returns c = takes-over
