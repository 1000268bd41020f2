use Rattle.stack_walk_laws.proofs.Sends.{in_all, out_all}
use Rattle.stack_walk_laws.proofs.send.a_group_is_sent.Goals as goal

pub returns-clause-out : goal.returns-clause-out
returns-clause-out c = λ m n ops a ios opening now status es bs spots cames g w h. out_all m n ops a ios opening bs spots cames now status es g w h

pub returns-clause-inward : goal.returns-clause-inward
returns-clause-inward c = λ m n ops a ios opening now status es bs spots cames faults g w h. in_all m n ops a ios opening faults bs spots cames now status es g w h
