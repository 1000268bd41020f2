use Rattle.std.specs.Prelude.{ℕ, ◌+◌, Bool, true, false, not, ◌&&◌, if◌then◌else◌, List, ◌++◌, drop, ℤ, pos, ◌+ℤ◌, nat_abs, Option, Some, Result, Ok, Err}
use Rattle.std.specs.Int.{w16, to_be_bytes}
use Rattle.pi_guard.specs.Guards.{guard_of}
use Rattle.pi_guard.specs.declared.GuardKind.{GuardKind}
use Rattle.pi_guard.specs.declared.GuardKind.TheVariants.{Crc, Ip}
use Rattle.pi_tuple.specs.Tuples.{ref_tag}
use Rattle.pi_tuple.specs.Finds.{finding, is_zero}
use Rattle.pi_tuple.specs.declared.checks.PiType.{PiType}
use Rattle.pi_tuple.specs.declared.checks.PiType.TheVariants.{Zero, One, Two, Three}
use Rattle.pi_tuple.specs.declared.checks.Check.{Check}
use Rattle.fault_schedule.specs.Altered.{fails_of, kept, shift_of}
use Rattle.fault_schedule.specs.declared.Label.{Label}
use Rattle.fault_schedule.specs.declared.fault.Crossing.TheVariants.{AdapterToTarget, MediumToTarget, TargetToMedium}
use Rattle.fault_schedule.specs.declared.fault.FaultLine.{FaultLine}
use Rattle.integrity_payload.specs.Payloads.{all_asked}
use Rattle.bio_core.specs.declared.fate.Why.{Why}
use Rattle.bio_core.specs.declared.fate.Why.TheVariants.{Medium, Target}
use Rattle.rig_api.specs.Frames.{data_of, tuple_of}
use Rattle.rig_api.specs.Passing.{from_medium, to_medium}
use Rattle.rig_api.specs.declared.passage.Passage.{Passage}
use Rattle.block_path.specs.declared.mode.Mode.{Mode}
use Rattle.block_path.specs.declared.route.Route.{Route}
use Rattle.pi_tuple.specs.declared.TheConstants.{TUPLE}

-- What host, adapter and target know of a block on its way. A frame is the block's data, followed by its tuple where one travels.

-- the type of tuples in memory: that of the unit, and type 1 where the unit has none
abbrev pub host_type : PiType → PiType
host_type Zero = One
host_type One = One
host_type Two = Two
host_type Three = Three

-- tuples of units of this type travel between adapter and target
abbrev pub passes : Mode → PiType → Bool
passes m ty = m.dif && not (is_zero ty)

-- the protect field of commands to such units
abbrev pub field_for : Mode → PiType → ℕ
field_for m ty = if passes m ty then m.protect else 0

-- the block's tuple travels there
abbrev pub passes_tuples : Route → Bool
passes_tuples r = passes r.mode r.ty

-- the protect field of the block's command
abbrev pub field : Route → ℕ
field r = field_for r.mode r.ty

-- the bytes of the frame between host and adapter
abbrev pub host_size : Route → ℕ
host_size r = if r.mode.dix then r.size + TUPLE else r.size

-- and those between adapter and target
abbrev pub wire_size : Route → ℕ
wire_size r = if passes_tuples r then r.size + TUPLE else r.size

-- What is found in a frame in the host's form: its guard, its application tag under the mask, and its reference tag, which is to be that of this block or address.
abbrev pub host_finding : Route → ℕ → List ℕ → Option Check
host_finding r address frame = finding (host_type r.ty) (all_asked r.mode.app r.mode.mask) (ref_tag address) (guard_of r.mode.kind (data_of r.size frame)) (tuple_of r.size frame)

-- the frame with this guard in its tuple
abbrev pub with_guard : (size : ℕ) → ℕ → List ℕ → List ℕ
with_guard size guard frame = data_of size frame ++ (to_be_bytes w16 guard ++ drop (size + 2) frame)

abbrev pub is_crc : GuardKind → Bool
is_crc Crc = true
is_crc Ip = false

-- Where the host's guard is the checksum, the frame gets the guard of this kind of its data as it is; else nothing is replaced.
abbrev pub converted : Route → GuardKind → List ℕ → List ℕ
converted r kind frame = if is_crc r.mode.kind then frame else with_guard r.size (guard_of kind (data_of r.size frame)) frame

-- an address that is so many blocks off
abbrev pub moved : ℕ → ℤ → ℕ
moved lba by = nat_abs (pos lba +ℤ by)

-- the address at which the target looks for the block
abbrev pub wire_lba : List FaultLine → Route → ℕ
wire_lba faults r = moved r.lba (shift_of faults AdapterToTarget r.label.op)

-- and the one at which a read finds it on the medium
abbrev pub medium_lba : List FaultLine → Route → ℕ
medium_lba faults r = moved (wire_lba faults r) (shift_of faults MediumToTarget r.label.op)

-- and the one at which a write stores it there
abbrev pub stored_lba : List FaultLine → Route → ℕ
stored_lba faults r = moved (wire_lba faults r) (shift_of faults TargetToMedium r.label.op)

-- the block as the target knows it
abbrev pub passage : List FaultLine → Route → Passage
passage faults r = record {
  ty = r.ty;
  size = r.size;
  protect = field r;
  lba = wire_lba faults r;
  rtag = ref_tag r.lba;
  app = r.mode.app;
  mask = r.mode.mask;
  label = Some r.label;
}

-- What is behind the adapter: what it stores of a frame that it is sent, and what it sends of a stored block, or why it doesn't; and what is left where it stores a frame over an old one.
pub record Device : Type 0 where
  pub stores : Route → List ℕ → Result (List ℕ) Why
  pub sends : Route → List ℕ → Result (List ℕ) Why
  pub leaves : Route → (old frame : List ℕ) → List ℕ

abbrev pub by_target : Result (List ℕ) Check → Result (List ℕ) Why
by_target (Ok frame) = Ok frame
by_target (Err check) = Err (Target check)

-- A write that the target accepts fails where the medium can't store it; a read that the medium can't send doesn't come to the target's check.
abbrev pub stores_unless : Bool → Result (List ℕ) Why → Result (List ℕ) Why
stores_unless false came = came
stores_unless true (Ok frame) = Err Medium
stores_unless true (Err why) = Err why

abbrev pub sends_unless : Bool → Result (List ℕ) Why → Result (List ℕ) Why
sends_unless false came = came
sends_unless true came = Err Medium

-- a target with these faults armed
abbrev pub target : List FaultLine → Device
target faults = record {
  stores = λ r frame. stores_unless (fails_of faults r.label) (by_target (to_medium faults (passage faults r) frame));
  sends = λ r stored. sends_unless (fails_of faults r.label) (by_target (from_medium faults (passage faults r) stored));
  leaves = λ r old frame. kept faults r.label old frame;
}

-- any device of which it is known what came of each block
abbrev pub told_by : (Label → Result (List ℕ) Why) → Device
told_by came = record {
  stores = λ r frame. came r.label;
  sends = λ r stored. came r.label;
  leaves = λ r old frame. frame;
}
