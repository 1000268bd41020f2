use Rattle.stack_walk_laws.proofs.SentIn.{fallen_in}
use Rattle.stack_walk_laws.proofs.SentOut.{fallen_out}
use Rattle.stack_walk_laws.proofs.falls_send.a_falling_command_is_sent.Goals as goal

pub returns-clause-out : goal.returns-clause-out
returns-clause-out c = λ m n ops a ios req pool us stop fates old new opening status spots protect g w good site r told sized going none h.
    fallen_out m n ops a ios req pool us protect g site stop fates old new opening status spots w good r told sized going none h

pub returns-clause-inward : goal.returns-clause-inward
returns-clause-inward c = λ m n ops a ios req pool pool' us stop fates old new opening status spots protect g w site wide r told sized going none h.
    fallen_in m n ops a ios req pool us protect g site stop pool' fates old new opening status spots w wide r told sized going none h
