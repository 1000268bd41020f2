use Rattle.script_run_laws.proofs.AtUnits.{lies-at-units}
use Rattle.script_run_laws.proofs.laws.a_bound_script_lies_at_its_units.Goals as goal

pub returns : goal.returns
returns c = λ m s t units logs k n made h is. lies-at-units m s t units logs is n made h
