use Rattle.std.proofs.Common.{drop}
use Rattle.vector_runs.specs.RecordText.{records_text}
use Rattle.report_text.proofs.Written.{Writing}
use Rattle.vector_runs.proofs.records.write_records.Given as goal

abbrev pub invariant-loop-i : goal.invariant-loop-i
invariant-loop-i g l = Writing (g.O.Sink.taken) (g.O.Sink.faults) (records_text (drop l.fn.from (g.R.Rig.state l.rig).log)) (records_text (drop l.i (g.R.Rig.state l.rig).log)) l.initial.out l.out
