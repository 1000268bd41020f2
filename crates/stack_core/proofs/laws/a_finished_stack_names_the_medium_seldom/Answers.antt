use Rattle.stack_core.proofs.MediumLines.{lines_rose}
use Rattle.stack_core.proofs.laws.a_finished_stack_names_the_medium_seldom.Goals as goal

pub returns : goal.returns
returns c = lines_rose
