use Rattle.stack_walk_laws.proofs.Stepping.{whole_falling}
use Rattle.stack_walk_laws.proofs.falls_steps.an_op_is_done_whole_where_calls_fail.Goals as goal

pub returns : goal.returns
returns c = λ m n front behind op opening old new pages blocks es cells placed mine alone lets f becomes. whole_falling m n front behind op opening old new pages blocks es cells placed mine alone lets f becomes
