use Rattle.std.proofs.Common.{◌≡◌, ◌+◌, drop}
use Rattle.vector_runs.specs.ListText.{lines_text}
use Rattle.report_text.proofs.Written.{Writing}
use Rattle.vector_runs.proofs.printing.write_lines.Given as goal

abbrev pub invariant-loop-line : goal.invariant-loop-line
invariant-loop-line g l = record {
  text : Writing (g.O.Sink.taken) (g.O.Sink.faults) (lines_text l.lines (drop l.fn.from (g.R.Rig.state l.rig).log)) (lines_text (drop l.line-index l.lines) (drop l.i (g.R.Rig.state l.rig).log)) l.initial.out l.out;
  place : l.i ≡ l.from + l.line-index;
}
