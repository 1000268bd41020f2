use Rattle.stack_laws.proofs.Lists.{by-lists}
use Rattle.stack_laws.proofs.laws.the_enabled_steps_are_six_lists.Goals as goal

pub returns : goal.returns
returns c = by-lists
