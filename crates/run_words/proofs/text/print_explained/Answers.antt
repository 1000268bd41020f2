use Rattle.std.proofs.Common.{ℕ, Ok, Err}
use Rattle.report_text.proofs.Written.{flushed, stops}
use Rattle.run_words.proofs.text.print_explained.Goals as goal

pub returns-in_err-unseen-clause-wrote : goal.returns-in_err-unseen-clause-wrote
returns-in_err-unseen-clause-wrote g c = stops c.from_residual.result c.from_residual.ensures.0 c.in_err-unseen.ensures.wrote

pub returns-in_err-flush-clause-wrote : goal.returns-in_err-flush-clause-wrote
returns-in_err-flush-clause-wrote g c =
    stops {T = ℕ} c.from_residual-in_err-flush.result c.from_residual-in_err-flush.ensures.0 (flushed (Err c.in_err-flush.field-0) c.in_ok-unseen.ensures.wrote c.in_err-flush.ensures.same c.in_err-flush.ensures.calm c.in_err-flush.ensures.cause c.in_err-flush.ensures.count)

pub returns-clause-wrote : goal.returns-clause-wrote
returns-clause-wrote g c = flushed (Ok c.in_ok-unseen.unseen) c.in_ok-unseen.ensures.wrote c.in_ok-flush.ensures.same c.in_ok-flush.ensures.calm c.in_ok-flush.ensures.cause c.in_ok-flush.ensures.count
