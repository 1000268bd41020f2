use Rattle.script_form_laws.proofs.Formed.{accounted-by-form}
use Rattle.script_form_laws.proofs.a_script_is_accounted_for_by_its_form.Goals as goal

pub returns : goal.returns
returns c = λ s t us b p. accounted-by-form s t us c.faults_are_accounted_for_by_their_form.ensures b p
