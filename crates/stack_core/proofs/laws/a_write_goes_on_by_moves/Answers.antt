use Rattle.stack_core.proofs.InCells.{are-made, are-mapped, is-mapped-back}
use Rattle.stack_core.proofs.laws.a_write_goes_on_by_moves.Goals as goal

pub returns-clause-made : goal.returns-clause-made
returns-clause-made c = λ old new io pi dev label ty mode now h w o e m. are-made old new io pi h dev ty mode now e label w o m

pub returns-clause-mapped : goal.returns-clause-mapped
returns-clause-mapped c = λ old new io pi k n lba dev label ty mode now h w l e m. are-mapped old new io pi h dev ty mode now e label k n lba l w m

pub returns-clause-back : goal.returns-clause-back
returns-clause-back c = λ old new io pi k lba dev label ty mode now h l e m. is-mapped-back old new io pi h dev ty mode now e label k lba l m
