use Rattle.stack_walk_laws.proofs.Ends.{ends_as_walk}
use Rattle.stack_walk_laws.proofs.end.a_finished_stack_is_the_walk.Goals as goal

pub returns : goal.returns
returns c = λ m fine n ops opening now status es run ended h. ends_as_walk m fine n ops opening now status es run ended h
