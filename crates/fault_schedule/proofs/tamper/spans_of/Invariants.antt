use Rattle.std.proofs.Common.{◌≡◌, ◌<◌, ℕ, ◌%◌, length, get_or}
use Rattle.fault_schedule.specs.declared.fault.FaultLine.{FaultLine}
use Rattle.fault_schedule.specs.declared.tamper.Span.{Span}
use Rattle.fault_schedule.specs.Spans.{IsAround}
use Rattle.fault_schedule.proofs.tamper.spans_of.Given as goal

abbrev pub invariant-loop-i : goal.invariant-loop-i
invariant-loop-i l = (length l.spans ≡ 1024) × ((k : ℕ) (d : FaultLine) (s : Span) → k < l.i → IsAround (get_or l.spans ((get_or l.lines k d).op % 1024) s) k)
