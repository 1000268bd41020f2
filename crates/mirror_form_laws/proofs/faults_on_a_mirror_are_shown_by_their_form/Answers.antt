use Rattle.mirror_form_laws.proofs.Runs.{known_by_form}
use Rattle.mirror_form_laws.proofs.faults_on_a_mirror_are_shown_by_their_form.Goals as goal

pub returns : goal.returns
returns c = record {
  accounted = λ m devices half ops opening run. (known_by_form m devices half ops opening run).accounted;
  kept = λ m devices half ops opening run. (known_by_form m devices half ops opening run).kept;
}
