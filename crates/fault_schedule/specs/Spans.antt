-- Where the lines of an op stand in a schedule.
use Rattle.std.specs.Prelude.{◌≤◌, ◌<◌, ℕ, ◌%◌, eqb, List, get_or, length, min}
use Rattle.std.specs.List.{filter}
use Rattle.fault_schedule.specs.declared.fault.FaultLine.{FaultLine}
use Rattle.fault_schedule.specs.declared.tamper.Span.{Span}

-- the lines that name the op, in order
abbrev pub lines_of_op : ℕ → List FaultLine → List FaultLine
lines_of_op op lines = filter (λ (line : FaultLine). eqb line.op op) lines

-- The span is around this place, where a place past 255 counts as 255.
abbrev pub IsAround : Span → ℕ → Type 0
IsAround span k = (span.first ≤ min k 255) × (min k 255 ≤ span.last)

-- Each line stands in the span of the rest of its op's number by 1,024.
abbrev pub AreWithin : List Span → List FaultLine → Type 0
AreWithin spans lines = (k : ℕ) (d : FaultLine) (s : Span) → k < length lines → IsAround (get_or spans ((get_or lines k d).op % 1024) s) k
