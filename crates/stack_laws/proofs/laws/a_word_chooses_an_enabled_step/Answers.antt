use Rattle.stack_laws.proofs.Enabled.{chosen-can}
use Rattle.stack_laws.proofs.laws.a_word_chooses_an_enabled_step.Goals as goal

pub returns : goal.returns
returns c = chosen-can
