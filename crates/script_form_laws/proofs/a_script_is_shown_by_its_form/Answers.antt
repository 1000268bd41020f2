use Rattle.script_form_laws.proofs.Formed.{formed}
use Rattle.script_form_laws.proofs.a_script_is_shown_by_its_form.Goals as goal

pub returns : goal.returns
returns c = λ s t us b p. formed s t us c.faults_are_shown_by_their_form.ensures b p
