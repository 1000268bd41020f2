use Rattle.script_run_laws.proofs.AtTarget.{over-units}
use Rattle.script_run_laws.proofs.laws.a_bound_script_is_bound_at_its_target.Goals as goal

pub returns : goal.returns
returns c = over-units c.a_target_keeps_sizes.ensures
