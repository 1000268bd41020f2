use Rattle.std.proofs.Common.{refl}
use Rattle.stack_walk_laws.proofs.send.what_was_not_carried_is_not_on_record.Goals as goal

pub returns-clause-begins : goal.returns-clause-begins
returns-clause-begins c = λ i k e. refl

pub returns-clause-goes_on : goal.returns-clause-goes_on
returns-clause-goes_on c = λ old new es less h i k e. h i k (less i k e)
