use Rattle.std.proofs.Common.{drop}
use Rattle.report_text.specs.Trace.{trace}
use Rattle.report_text.proofs.Written.{stops_first, wrote_both}
use Rattle.run_command.proofs.text.print_traced_run.Goals as goal

pub returns-in_err-print_report-clause-wrote : goal.returns-in_err-print_report-clause-wrote
returns-in_err-print_report-clause-wrote g c =
    stops_first (trace (drop c.args.run.now.first (g.R.Rig.state c.args.rig.now).log)) c.from_residual.result c.from_residual.ensures.0 (rw c.replies.ensures at c.in_err-print_report.ensures.wrote)

pub returns-clause-wrote : goal.returns-clause-wrote
returns-clause-wrote g c = wrote_both c.print_trace.result (rw c.replies.ensures at c.in_ok-print_report.ensures.wrote) c.print_trace.ensures.wrote
