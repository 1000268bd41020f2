use Rattle.std.specs.Prelude.{ℕ, ◌-◌, Bool, true, false, List, Option, Some, slice_get}
use Rattle.fault_schedule.specs.declared.fault.Crossing.{Crossing}
use Rattle.fault_schedule.specs.declared.fault.Crossing.TheVariants.{HostToAdapter, AdapterToTarget, TargetToMedium, MediumToTarget, TargetToAdapter, AdapterToHost}
use Rattle.script_lines.specs.declared.verb.ScriptVersion.{ScriptVersion}
use Rattle.script_lines.specs.declared.verb.ScriptVersion.TheVariants.{One, Two, Three}
use Rattle.fault_schedule.specs.declared.fault.FaultKind.{FaultKind}
use Rattle.fault_schedule.specs.declared.fault.FaultKind.TheVariants.{Flip, Shift, Keep, Fail}
use Rattle.fault_schedule.specs.declared.fault.FaultLine.{FaultLine}
use Rattle.script_lines.specs.declared.line.Spot.{Spot}
use Rattle.script_lines.specs.declared.line.Spot.TheVariants.{Host, Wire, Medium}
use Rattle.stack_ops.specs.declared.op.Op.{Op}
use Rattle.stack_ops.specs.declared.op.Op.TheVariants.{Fetch, FetchPi}
use Rattle.script_text.specs.declared.raw_fault.RawFault.{RawFault}

-- The crossing of a place for a read. On the wire a shift is of the command, which goes to the target.
abbrev pub read_crossing : Spot → FaultKind → Crossing
read_crossing Host kind = AdapterToHost
read_crossing Wire (Flip off bytes) = TargetToAdapter
read_crossing Wire (Shift by) = AdapterToTarget
read_crossing Wire (Keep bytes) = TargetToAdapter
read_crossing Wire Fail = TargetToAdapter
read_crossing Medium kind = MediumToTarget

-- the same for any other op
abbrev pub write_crossing : Spot → Crossing
write_crossing Host = HostToAdapter
write_crossing Wire = AdapterToTarget
write_crossing Medium = TargetToMedium

abbrev pub crossing_of : Spot → FaultKind → Bool → Crossing
crossing_of spot kind true = read_crossing spot kind
crossing_of spot kind false = write_crossing spot

abbrev pub is_read_op : Option Op → Bool
is_read_op (Some (Fetch v n body)) = true
is_read_op (Some (FetchPi v n body tuples)) = true
is_read_op _ = false

-- Whether the op of this number, from 1, is a read.
abbrev pub is_read : List Op → ℕ → Bool
is_read ops number = is_read_op (slice_get ops (number - 1))

-- Scripts of this version may say that the medium itself fails.
abbrev pub is_third : ScriptVersion → Bool
is_third One = false
is_third Two = false
is_third Three = true

-- Before version 3 a shift on the medium is of a fetched block, whatever op it names; from then on one of a write moves the stored block.
abbrev pub shifted_at : (third : Bool) → Crossing → Crossing
shifted_at true at = at
shifted_at false HostToAdapter = HostToAdapter
shifted_at false AdapterToTarget = AdapterToTarget
shifted_at false TargetToMedium = MediumToTarget
shifted_at false MediumToTarget = MediumToTarget
shifted_at false TargetToAdapter = TargetToAdapter
shifted_at false AdapterToHost = AdapterToHost

-- the crossing of a fault in a script of version 3, or of an earlier one
abbrev pub crossing_in : (third : Bool) → FaultKind → Crossing → Crossing
crossing_in third (Flip off bytes) at = at
crossing_in third (Shift by) at = shifted_at third at
crossing_in third (Keep bytes) at = at
crossing_in third Fail at = at

abbrev pub crossed : (third : Bool) → List Op → RawFault → FaultLine
crossed third ops f = record { op = f.op; k = f.k; at = crossing_in third f.kind (crossing_of f.spot f.kind (is_read ops f.op)); kind = f.kind }

-- where a crossing lies
abbrev pub spot_of : Crossing → Spot
spot_of HostToAdapter = Host
spot_of AdapterToHost = Host
spot_of AdapterToTarget = Wire
spot_of TargetToAdapter = Wire
spot_of TargetToMedium = Medium
spot_of MediumToTarget = Medium

abbrev pub Raw : Type 0
Raw = RawFault

-- a fault as its line says it
abbrev pub raw_of : FaultLine → RawFault
raw_of f = record { op = f.op; k = f.k; spot = spot_of f.at; kind = f.kind }
