use Rattle.script_form_laws.proofs.Formed.{stays-clean}
use Rattle.script_form_laws.proofs.a_still_script_leaves_its_devices_clean.Goals as goal

pub returns : goal.returns
returns c = λ s t us b p. stays-clean s t us c.a_calm_run_leaves_its_devices_clean.ensures b p
