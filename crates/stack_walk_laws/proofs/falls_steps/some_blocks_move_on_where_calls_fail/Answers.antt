use Rattle.stack_walk_laws.proofs.Stepping.{all_admitted_falling, all_cut_falling}
use Rattle.stack_walk_laws.proofs.falls_steps.some_blocks_move_on_where_calls_fail.Goals as goal

pub returns-clause-admitted : goal.returns-clause-admitted
returns-clause-admitted c = λ m n ops opening status pages blocks es spots may f. all_admitted_falling m n ops opening status pages blocks es spots may f

pub returns-clause-cut : goal.returns-clause-cut
returns-clause-cut c = λ m n ops opening status pages blocks es spots may f. all_cut_falling m n ops opening status pages blocks es spots may f
