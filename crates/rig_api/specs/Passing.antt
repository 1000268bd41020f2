use Rattle.std.specs.Prelude.{ℕ, Bool, true, false, not, ◌&&◌, ◌||◌, eqb, if◌then◌else◌, List, Option, Some, None, Result, Ok, Err}
use Rattle.pi_guard.specs.Guards.{crc}
use Rattle.pi_tuple.specs.Tuples.{ref_tag}
use Rattle.pi_tuple.specs.Finds.{finding, own_tag}
use Rattle.pi_tuple.specs.declared.checks.PiType.{PiType}
use Rattle.pi_tuple.specs.declared.checks.PiType.TheVariants.{Zero, One, Two, Three}
use Rattle.pi_tuple.specs.declared.checks.Check.{Check}
use Rattle.pi_tuple.specs.declared.checks.Checks.{Checks}
use Rattle.cdb_codec.specs.Rule.{is_two}
use Rattle.fault_schedule.specs.Altered.{altered}
use Rattle.fault_schedule.specs.declared.Label.{Label}
use Rattle.fault_schedule.specs.declared.fault.Crossing.{Crossing}
use Rattle.fault_schedule.specs.declared.fault.Crossing.TheVariants.{AdapterToTarget, TargetToMedium, MediumToTarget, TargetToAdapter}
use Rattle.fault_schedule.specs.declared.fault.FaultLine.{FaultLine}
use Rattle.rig_api.specs.Frames.{data_of, tuple_of, frame_of}
use Rattle.rig_api.specs.declared.passage.Passage.{Passage}

-- What a target does with one block on its way to the medium, and with one from it. Each answers the frame that is stored or sent, or what was found in it.

-- the frame as it stands after a crossing: a block without a label crosses unaltered
abbrev pub crossed : List FaultLine → Option Label → Crossing → List ℕ → List ℕ
crossed faults None at frame = frame
crossed faults (Some label) at frame = altered faults at label frame

abbrev pub is_one : PiType → Bool
is_one Zero = false
is_one One = true
is_one Two = false
is_one Three = false

-- What is asked of a tuple.
-- The guard, but under protect field 011b; the reference tag under 001b, and of a stored block of type 1 under 000b too;
-- under 001b in type 2 also the application tag in the command's mask (SBC-3, 4.22.4 and the RDPROTECT and WRPROTECT tables).
abbrev pub asked_of : Passage → Checks
asked_of b = record {
  guard = not (eqb b.protect 3);
  rtag = eqb b.protect 1 || (eqb b.protect 0 && is_one b.ty);
  app = b.app;
  mask = if is_two b.ty && eqb b.protect 1 then b.mask else 0;
}

-- the reference tag that is wanted: in type 2 the one that the command tells, else that of the block's address
abbrev pub wanted_of : Passage → ℕ
wanted_of b = if is_two b.ty then b.rtag else ref_tag b.lba

-- what is found in the frame of this block
unfoldable pub found_in : Passage → List ℕ → Option Check
found_in b frame = finding b.ty (asked_of b) (wanted_of b) (crc (data_of b.size frame)) (tuple_of b.size frame)

-- the block with a tuple of its own, where its unit has tuples
abbrev pub with_own_tuple : PiType → (lba : ℕ) → List ℕ → List ℕ
with_own_tuple Zero lba bytes = bytes
with_own_tuple One lba bytes = frame_of bytes (record { guard = crc bytes; app = 0; rtag = own_tag One lba })
with_own_tuple Two lba bytes = frame_of bytes (record { guard = crc bytes; app = 0; rtag = own_tag Two lba })
with_own_tuple Three lba bytes = frame_of bytes (record { guard = crc bytes; app = 0; rtag = own_tag Three lba })

abbrev pub unless : Option Check → List ℕ → Result (List ℕ) Check
unless None frame = Ok frame
unless (Some check) frame = Err check

abbrev pub then_crossed : List FaultLine → Option Label → Crossing → Result (List ℕ) Check → Result (List ℕ) Check
then_crossed faults label at (Ok frame) = Ok (crossed faults label at frame)
then_crossed faults label at (Err check) = Err check

-- of a frame that came from the adapter: under protect field 000b the target makes the tuple, else it checks the frame
abbrev pub accepted : Passage → List ℕ → Result (List ℕ) Check
accepted b frame = if eqb b.protect 0 then Ok (with_own_tuple b.ty b.lba frame) else unless (found_in b frame) frame

-- a block on its way to the medium: altered, accepted, altered
unfoldable pub to_medium : List FaultLine → Passage → List ℕ → Result (List ℕ) Check
to_medium faults b frame = then_crossed faults b.label TargetToMedium (accepted b (crossed faults b.label AdapterToTarget frame))

-- of a frame that came from the medium: it is checked, and under protect field 000b its tuple stays behind
abbrev pub released : Passage → List ℕ → Result (List ℕ) Check
released b frame = unless (found_in b frame) (if eqb b.protect 0 then data_of b.size frame else frame)

-- a block on its way from the medium: altered, checked, altered
unfoldable pub from_medium : List FaultLine → Passage → List ℕ → Result (List ℕ) Check
from_medium faults b stored = then_crossed faults b.label TargetToAdapter (released b (crossed faults b.label MediumToTarget stored))
