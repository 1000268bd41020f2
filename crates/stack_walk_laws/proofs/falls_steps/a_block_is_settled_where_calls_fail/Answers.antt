use Rattle.stack_walk_laws.proofs.Stepping.{settled_falling}
use Rattle.stack_walk_laws.proofs.falls_steps.a_block_is_settled_where_calls_fail.Goals as goal

pub returns : goal.returns
returns c = λ m n s opening old new pages blocks es fate may e f becomes. settled_falling m n s opening old new pages blocks es fate may e f becomes
