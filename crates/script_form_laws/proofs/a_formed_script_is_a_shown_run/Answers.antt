use Rattle.script_form_laws.proofs.Formed.{shown}
use Rattle.script_form_laws.proofs.a_formed_script_is_a_shown_run.Goals as goal

pub returns : goal.returns
returns c = λ s t us b p. shown s t us c.faults_are_shown_by_their_form.ensures b p
