use Rattle.script_run_laws.proofs.Units.{over-units}
use Rattle.script_run_laws.proofs.laws.a_rig_has_a_cell_for_each_address.Goals as goal

pub returns : goal.returns
returns c = over-units
