use Rattle.stack_walk_laws.proofs.Backing.{is_backed}
use Rattle.stack_walk_laws.proofs.end.a_finished_stack_is_backed.Goals as goal

pub returns : goal.returns
returns c = λ m n ops opening now status log run ended h. is_backed m n ops opening now status log run ended h
