use Rattle.stack_walk_laws.proofs.Begins.{begin_all}
use Rattle.stack_walk_laws.proofs.begin.a_stack_begins.Goals as goal

pub returns : goal.returns
returns c = λ m n ops opening empty. begin_all m n ops opening empty
