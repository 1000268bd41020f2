use Rattle.stack_walk_laws.proofs.Ending.{ends_as_falling}
use Rattle.stack_walk_laws.proofs.falls_end.a_finished_stack_is_the_falling_walk.Goals as goal

pub returns : goal.returns
returns c = λ m fine n ops opening status pages blocks es run takes ended h. ends_as_falling m fine n ops opening status pages blocks es run takes ended h
