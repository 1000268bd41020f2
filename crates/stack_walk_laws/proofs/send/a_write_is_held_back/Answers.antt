use Rattle.stack_walk_laws.proofs.Holding.{held_back}
use Rattle.stack_walk_laws.proofs.send.a_write_is_held_back.Goals as goal

pub returns : goal.returns
returns c = λ m n ops a ios req pool pool' fates opening now status es spots g w faults u going pages h. held_back m n ops a ios req pool pool' fates opening now status es spots g w faults u going pages h
