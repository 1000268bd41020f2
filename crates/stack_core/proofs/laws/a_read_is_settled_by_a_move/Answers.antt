use Rattle.stack_core.proofs.InCells.{is-bare, is-settle}
use Rattle.stack_core.proofs.laws.a_read_is_settled_by_a_move.Goals as goal

pub returns-clause-framed : goal.returns-clause-framed
returns-clause-framed c = λ old new io pi k lba dev n label ty mode fate result now h dix l u e f s. is-settle old io pi k h l label dev ty mode lba dix fate n new result now u e f s

pub returns-clause-bare : goal.returns-clause-bare
returns-clause-bare c = λ old new io owner k lba dev n label ty mode fate result now none dix whole lies l u e f s. is-bare old io k none whole lies l label dev ty mode lba dix owner fate n new result now u e f s
