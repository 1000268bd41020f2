use Rattle.lab_laws.proofs.Repeats.{same_again}
use Rattle.lab_laws.proofs.again.vectors_done_again_are_the_same_text.Goals as goal

pub returns : goal.returns
returns c = same_again
