use Rattle.report_text.proofs.Written.{stops, flushed}
use Rattle.report_text.proofs.report.print_report.Goals as goal

pub returns-in_err-write_report-clause-wrote : goal.returns-in_err-write_report-clause-wrote
returns-in_err-write_report-clause-wrote g c = stops c.from_residual.result c.from_residual.ensures.0 c.in_err-write_report.ensures

pub returns-clause-wrote : goal.returns-clause-wrote
returns-clause-wrote g c = flushed c.flush.result c.in_ok-write_report.ensures c.flush.ensures.same c.flush.ensures.calm c.flush.ensures.cause c.flush.ensures.count
