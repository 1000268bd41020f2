use Rattle.run_premises.proofs.Known.{known_by_form}
use Rattle.run_premises.proofs.faults_are_accounted_for_by_their_form.Goals as goal

pub returns : goal.returns
returns c = known_by_form
