use Rattle.std.proofs.Common.{drop}
use Rattle.report_text.specs.Trace.{trace}
use Rattle.report_text.proofs.Written.{Writing}
use Rattle.report_text.proofs.trace.write_trace.Given as goal

abbrev pub invariant-loop-i : goal.invariant-loop-i
invariant-loop-i g l = Writing (g.O.Sink.taken) (g.O.Sink.faults) (trace (drop l.fn.from (g.R.Rig.state l.rig).log)) (trace (drop l.i (g.R.Rig.state l.rig).log)) l.initial.out l.out
