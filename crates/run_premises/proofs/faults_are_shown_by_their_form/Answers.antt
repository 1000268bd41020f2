use Rattle.run_premises.proofs.Runs.{shown_by_form}
use Rattle.run_premises.proofs.faults_are_shown_by_their_form.Goals as goal

pub returns : goal.returns
returns c = shown_by_form
