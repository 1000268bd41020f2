-- The ops that a line shifts.
use Rattle.std.specs.Prelude.{ℕ, ◌+◌, Bool, true, false, ◌&&◌, eqb, List, map}
use Rattle.std.specs.List.{list_any}
use Rattle.fault_schedule.specs.declared.fault.FaultKind.{FaultKind}
use Rattle.fault_schedule.specs.declared.fault.FaultKind.TheVariants.{Flip, Shift, Keep, Fail}
use Rattle.fault_schedule.specs.declared.fault.FaultLine.{FaultLine}
use Rattle.stack_laws.specs.Passed.{numbers}

abbrev pub is_shift : FaultKind → Bool
is_shift (Flip off bytes) = false
is_shift (Shift by) = true
is_shift (Keep bytes) = false
is_shift Fail = false

-- the line shifts the op of this number, from 1
abbrev pub shifts : ℕ → FaultLine → Bool
shifts op f = eqb f.op op && is_shift f.kind

-- whether a line shifts each of n ops
abbrev pub shifted_by : List FaultLine → ℕ → List Bool
shifted_by faults n = map (λ i. list_any (shifts (i + 1)) faults) (numbers 0 n)
