use Rattle.stack_walk_laws.proofs.Recording.{sent_in, sent_out}
use Rattle.stack_walk_laws.proofs.send.a_command_is_sent.Goals as goal

pub returns-clause-out : goal.returns-clause-out
returns-clause-out c = λ m n ops a ios req pool fates old new opening now status spots protect g w good faults r going pages none h. sent_out m n ops a ios req pool protect g faults fates old new opening now status spots w good r going pages none h

pub returns-clause-inward : goal.returns-clause-inward
returns-clause-inward c = λ m n ops a ios req pool pool' fates old new opening now status spots protect g w faults r going pages none h. sent_in m n ops a ios req pool protect g faults pool' fates old new opening now status spots w r going pages none h
