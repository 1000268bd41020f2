use Rattle.stack_walk_laws.proofs.Telling.{told_in, told_out}
use Rattle.stack_walk_laws.proofs.send.a_told_command_is_sent.Goals as goal

pub returns-clause-out : goal.returns-clause-out
returns-clause-out c = λ m n ops a ios req pool us fates old new opening now status spots protect g w good site r told going pages blocks h.
    told_out m n ops a ios req pool us protect g site fates old new opening now status spots w good r told going pages blocks h

pub returns-clause-inward : goal.returns-clause-inward
returns-clause-inward c = λ m n ops a ios req pool pool' us fates old new opening now status spots protect g w site sized r came going pages blocks h.
    told_in m n ops a ios req pool us protect g site pool' fates old new opening now status spots w sized r came going pages blocks h
