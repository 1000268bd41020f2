use Rattle.std.proofs.Common.{◌+◌, drop}
use Rattle.report_text.specs.Report.{lines_from, report}
use Rattle.report_text.proofs.Written.{Writing}
use Rattle.report_text.proofs.report.write_report.Given as goal

abbrev pub invariant-loop-i : goal.invariant-loop-i
invariant-loop-i g l = Writing (g.O.Sink.taken) (g.O.Sink.faults) (report l.replies) (lines_from (l.i + 1) (drop l.i l.replies)) l.fn.out l.out
