use Rattle.stack_walk_laws.proofs.Fitting.{fit_in, fit_out}
use Rattle.stack_walk_laws.proofs.send.frames_on_record_fit.Goals as goal

pub returns-clause-out : goal.returns-clause-out
returns-clause-out c = λ m a ios req pool fates old new protect g w good wide r fit. fit_out m a ios req pool protect g fates old new w good wide r fit

pub returns-clause-inward : goal.returns-clause-inward
returns-clause-inward c = λ m a ios req pool pool' fates old new protect g w wide r fit. fit_in m a ios req pool protect g pool' fates old new w wide r fit
