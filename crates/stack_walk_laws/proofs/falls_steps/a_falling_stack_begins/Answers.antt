use Rattle.stack_walk_laws.proofs.Stepping.{begins}
use Rattle.stack_walk_laws.proofs.falls_steps.a_falling_stack_begins.Goals as goal

pub returns : goal.returns
returns c = λ m n ops opening empty. begins m n ops opening empty
