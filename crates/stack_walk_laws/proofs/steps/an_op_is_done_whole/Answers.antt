use Rattle.stack_walk_laws.proofs.Wholly.{wholly}
use Rattle.stack_walk_laws.proofs.steps.an_op_is_done_whole.Goals as goal

pub returns : goal.returns
returns c = λ m n front behind op opening now old new es one placed mine alone lets becomes h. wholly m n front behind op opening now old new es one placed mine alone lets becomes h
