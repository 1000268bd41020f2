use Rattle.std.proofs.Common.{drop}
use Rattle.report_text.specs.Report.{bad_lines}
use Rattle.report_text.proofs.Written.{Writing}
use Rattle.report_text.proofs.report.print_blocks.Given as goal

abbrev pub invariant-loop-block : goal.invariant-loop-block
invariant-loop-block g l = Writing (g.O.Sink.taken) (g.O.Sink.faults) (bad_lines l.number l.blocks) (bad_lines l.number (drop l.block-index l.blocks)) l.initial.out l.out
