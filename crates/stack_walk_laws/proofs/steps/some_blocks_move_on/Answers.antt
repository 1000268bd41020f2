use Rattle.stack_walk_laws.proofs.Together.{all_admitted, all_are_cut}
use Rattle.stack_walk_laws.proofs.steps.some_blocks_move_on.Goals as goal

pub returns-clause-admitted : goal.returns-clause-admitted
returns-clause-admitted c = λ m n ops opening now status es spots may h. all_admitted m n ops opening spots now status es may h

pub returns-clause-cut : goal.returns-clause-cut
returns-clause-cut c = λ m n ops opening now status es spots may h. all_are_cut m n ops opening spots now status es may h
