use Rattle.std.proofs.Common.{◌≡◌, drop}
use Rattle.image_text.specs.UnitText.{unit_lines}
use Rattle.report_text.proofs.Written.{Writing}
use Rattle.image_text.proofs.unit.write_lines.Given as goal

abbrev pub invariant-loop-unit : goal.invariant-loop-unit
invariant-loop-unit g l = record {
  lines : Writing (g.O.Sink.taken) (g.O.Sink.faults) (unit_lines 0 l.units) (unit_lines l.dev (drop l.unit-index l.units)) l.initial.out l.out;
  number : l.dev ≡ l.unit-index;
}
