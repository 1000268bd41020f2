use Rattle.stack_walk_laws.proofs.Stepping.{held_falling}
use Rattle.stack_walk_laws.proofs.falls_steps.a_write_is_held_back_where_calls_fail.Goals as goal

pub returns : goal.returns
returns c = λ m n ops a ios req pool pool' fates opening status blocks es spots g w faults u going f. held_falling m n ops a ios req pool pool' fates opening status blocks es spots g w faults u going f
