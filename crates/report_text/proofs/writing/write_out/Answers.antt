use Rattle.report_text.proofs.Written.{stops, flushed}
use Rattle.report_text.proofs.writing.write_out.Goals as goal

pub returns-in_err-write_all-clause-wrote : goal.returns-in_err-write_all-clause-wrote
returns-in_err-write_all-clause-wrote g c = stops c.from_residual.result c.from_residual.ensures.0 c.in_err-write_all.ensures

pub returns-clause-wrote : goal.returns-clause-wrote
returns-clause-wrote g c = flushed c.flush.result c.in_ok-write_all.ensures c.flush.ensures.same c.flush.ensures.calm c.flush.ensures.cause c.flush.ensures.count
