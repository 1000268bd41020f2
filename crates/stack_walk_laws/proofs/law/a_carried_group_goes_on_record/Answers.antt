use Rattle.stack_walk_laws.proofs.Puts.{goes_in, goes_out}
use Rattle.stack_walk_laws.proofs.law.a_carried_group_goes_on_record.Goals as goal

pub returns-clause-out : goal.returns-clause-out
returns-clause-out c = λ m a ios req pool fates old new protect g w good r. goes_out m a ios req pool protect g fates old new w good r

pub returns-clause-inward : goal.returns-clause-inward
returns-clause-inward c = λ m a ios req pool pool' fates old new protect g w r. goes_in m a ios req pool protect g pool' fates old new w r
