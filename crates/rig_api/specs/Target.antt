use Rattle.std.specs.Prelude.{ℕ, ◌+◌, ◌-◌, ◌*◌, ◌%◌, ◌^◌, min, Bool, true, false, not, ◌&&◌, eqb, leb, ltb, if◌then◌else◌, List, [], ◌∷◌, ◌++◌, length, take, drop, replicate, slice_get, ℤ, pos, negsuc, ◌+ℤ◌, nat_abs, Option, Some, None, Result, Ok, Err}
use Rattle.std.specs.Int.{w32, w64, to_be_bytes}
use Rattle.pi_tuple.specs.Finds.{is_zero}
use Rattle.pi_tuple.specs.declared.checks.PiType.{PiType}
use Rattle.pi_tuple.specs.declared.checks.PiType.TheVariants.{Zero, One, Two, Three}
use Rattle.pi_tuple.specs.declared.checks.Check.{Check}
use Rattle.cdb_codec.specs.Decoded.{decoded}
use Rattle.cdb_codec.specs.declared.command.Rw.{Rw}
use Rattle.cdb_codec.specs.declared.command.Cdb.{Cdb}
use Rattle.cdb_codec.specs.declared.command.CdbFault.{CdbFault}
use Rattle.cdb_codec.specs.declared.command.CdbFault.TheVariants.{Opcode, Field, Length}
use Rattle.fault_schedule.specs.Altered.{fails_of, kept, shift_of}
use Rattle.fault_schedule.specs.declared.Label.{Label}
use Rattle.fault_schedule.specs.declared.fault.Crossing.{Crossing}
use Rattle.fault_schedule.specs.declared.fault.Crossing.TheVariants.{AdapterToTarget, MediumToTarget, TargetToMedium}
use Rattle.fault_schedule.specs.declared.fault.FaultLine.{FaultLine}
use Rattle.sense_codes.specs.Checks.{ascq_of, key_of}
use Rattle.sense_codes.specs.declared.Sense.{Sense}
use Rattle.sense_codes.specs.declared.layer.Layer.TheVariants.{Target}
use Rattle.rig_api.specs.declared.passage.Passage.{Passage}
use Rattle.rig_api.specs.declared.request.Request.{Request}
use Rattle.rig_api.specs.declared.units.UnitSpec.{UnitSpec}
use Rattle.rig_api.specs.declared.request.Request.TheVariants.{Read, Write, Verify, ReadCapacity}
use Rattle.rig_api.specs.Frames.{sent_size, frames_of, placed}
use Rattle.rig_api.specs.Passing.{to_medium, from_medium}
use Rattle.rig_api.specs.Requests.{request_of, is_foreign}
use Rattle.sense_codes.specs.declared.codes.TheConstants.{PROTECTION, INVALID_OPCODE, INVALID_FIELD, OUT_OF_RANGE, WRITE_ERROR, UNRECOVERED_READ}

-- What a unit answers to a command block.

-- a unit: its type, the bytes of data in a block, the address of its first block, and its blocks as they are stored
pub record Stored : Type 0 where
  pub ty : PiType
  pub size : ℕ
  pub first : ℕ
  pub blocks : List (List ℕ)

-- what a unit is without its blocks
abbrev pub shape_of : Stored → UnitSpec
shape_of unit = record { ty = unit.ty; blocks = length unit.blocks; size = unit.size; first = unit.first }

-- ILLEGAL REQUEST with 20h INVALID COMMAND OPERATION CODE, 21h LOGICAL BLOCK ADDRESS OUT OF RANGE or 24h INVALID FIELD IN CDB (SPC-4, 4.5.6)
abbrev pub illegal : ℕ → Sense
illegal asc = record { key = 5; asc = asc; ascq = 0; info = None }

-- ABORTED COMMAND with 10h and the check's qualifier, and the address of the block as information
abbrev pub check_sense : Check → ℕ → Sense
check_sense check lba = record { key = key_of Target; asc = PROTECTION; ascq = ascq_of check; info = Some lba }

-- MEDIUM ERROR with 11h UNRECOVERED READ ERROR or 0Ch WRITE ERROR
abbrev pub medium_sense : ℕ → ℕ → Sense
medium_sense asc lba = record { key = 3; asc = asc; ascq = 0; info = Some lba }

-- The shifts of a command are those of its first label's op; without a label there is none.
abbrev pub shift_by_first : List FaultLine → Crossing → List Label → ℤ
shift_by_first faults at [] = pos 0
shift_by_first faults at (label ∷ labels) = shift_of faults at label.op

-- the address of the first block after the shift on the wire
abbrev pub wire_address : List FaultLine → List Label → Rw → ℤ
wire_address faults labels c = pos c.lba +ℤ shift_by_first faults AdapterToTarget labels

-- and where it is fetched, after the shift on the medium
abbrev pub medium_address : List FaultLine → List Label → Rw → ℤ
medium_address faults labels c = wire_address faults labels c +ℤ shift_by_first faults MediumToTarget labels

-- where a write's first block is stored, after the shift on the medium
abbrev pub stored_address : List FaultLine → List Label → Rw → ℤ
stored_address faults labels c = wire_address faults labels c +ℤ shift_by_first faults TargetToMedium labels

-- The unit has this many blocks from this address on.
abbrev pub has_blocks : UnitSpec → ℤ → ℕ → Bool
has_blocks unit (pos a) n = leb unit.first a && leb (a + n) (unit.first + unit.blocks)
has_blocks unit (negsuc a) n = false

-- a refusal in its place: whether it comes, and its additional sense code
pub record Refusal : Type 0 where
  pub comes : Bool
  pub asc : ℕ

abbrev pub first_of : List Refusal → Option Sense
first_of [] = None
first_of (r ∷ rest) = if r.comes then Some (illegal r.asc) else first_of rest

abbrev pub foreign_form : UnitSpec → Cdb → Refusal
foreign_form unit cdb = record { comes = is_foreign unit.ty cdb; asc = INVALID_OPCODE }

-- tuples are asked of a unit that has none
abbrev pub no_tuples : UnitSpec → Rw → Refusal
no_tuples unit c = record { comes = is_zero unit.ty && not (eqb c.protect 0); asc = INVALID_FIELD }

abbrev pub outside : UnitSpec → ℤ → ℕ → Refusal
outside unit a n = record { comes = not (has_blocks unit a n); asc = OUT_OF_RANGE }

-- a block is fetched or stored outside the unit; a command of no blocks moves none
abbrev pub moved_outside : UnitSpec → ℤ → ℕ → Refusal
moved_outside unit a n = record { comes = not (eqb n 0) && not (has_blocks unit a n); asc = OUT_OF_RANGE }

-- the host's buffer hasn't the length of what is transferred
abbrev pub wrong_room : (has wants : ℕ) → Refusal
wrong_room has wants = record { comes = not (eqb has wants); asc = INVALID_FIELD }

-- the bytes that a command transfers
abbrev pub bytes_of : (size : ℕ) → Rw → ℕ
bytes_of size c = c.n * sent_size c.protect size

-- the refusals of a write or a read, in their order: its blocks are stored or fetched from this address on, and the host has so many bytes of them or room for them
abbrev pub move_refusals : UnitSpec → Cdb → Rw → (told moved : ℤ) → (bytes : ℕ) → List Refusal
move_refusals unit cdb c told moved bytes =
    foreign_form unit cdb ∷ no_tuples unit c ∷ outside unit told c.n ∷ moved_outside unit moved c.n ∷ wrong_room bytes (bytes_of unit.size c) ∷ []

-- the refusals of a request, in their order; out and room are the lengths of what the host sends and has room for
abbrev pub refusals_of : UnitSpec → Cdb → Request → List FaultLine → List Label → (out room : ℕ) → List Refusal
refusals_of unit cdb (ReadCapacity len) faults labels out room = wrong_room room (min len 32) ∷ []
refusals_of unit cdb (Write c) faults labels out room =
    move_refusals unit cdb c (wire_address faults labels c) (stored_address faults labels c) out
refusals_of unit cdb (Read c) faults labels out room =
    move_refusals unit cdb c (wire_address faults labels c) (medium_address faults labels c) room
refusals_of unit cdb (Verify c) faults labels out room =
    foreign_form unit cdb ∷ no_tuples unit c ∷ outside unit (pos c.lba) c.n ∷ []

abbrev pub asc_of : CdbFault → ℕ
asc_of Opcode = INVALID_OPCODE
asc_of Field = INVALID_FIELD
asc_of Length = INVALID_FIELD

-- the first refusal of a command block, if there is one
unfoldable pub refusal : UnitSpec → Result Cdb CdbFault → List FaultLine → List Label → (out room : ℕ) → Option Sense
refusal unit (Err fault) faults labels out room = Some (illegal (asc_of fault))
refusal unit (Ok cdb) faults labels out room = first_of (refusals_of unit cdb (request_of cdb) faults labels out room)

-- a store call that failed: at this block of the command, and what it left there, where it was a write
pub record Stop : Type 0 where
  pub at : ℕ
  pub left : List ℕ

-- what a unit answers: how many blocks are done, the sense, its blocks afterwards, and what it sends
pub record Answer : Type 0 where
  pub done : ℕ
  pub sense : Option Sense
  pub blocks : List (List ℕ)
  pub sent : List (List ℕ)

-- why a block isn't stored or sent: a check found it bad, or a fault line says that the medium can't; the latter with the additional sense code
pub data Flaw : Type 0 where
  Found : Check → Flaw
  Broken : ℕ → Flaw

-- the sense of a command that ends at a block with this flaw
abbrev pub flaw_sense : Flaw → ℕ → Sense
flaw_sense (Found check) lba = check_sense check lba
flaw_sense (Broken asc) lba = medium_sense asc lba

-- the frames of the longest prefix without a flaw
abbrev pub passed : List (Result (List ℕ) Flaw) → List (List ℕ)
passed [] = []
passed (Ok frame ∷ rest) = frame ∷ passed rest
passed (Err flaw ∷ rest) = []

-- the sense of the block after it, where there is one; the address is that of the first
abbrev pub first_sense : ℕ → List (Result (List ℕ) Flaw) → Option Sense
first_sense lba [] = None
first_sense lba (Ok frame ∷ rest) = first_sense (lba + 1) rest
first_sense lba (Err flaw ∷ rest) = Some (flaw_sense flaw lba)

-- how the blocks of a command end: how many are done, the sense, and the frames that are stored or sent
pub record Ended : Type 0 where
  pub done : ℕ
  pub sense : Option Sense
  pub frames : List (List ℕ)

-- exactly the prefix without a flaw is done
abbrev pub whole : (lba : ℕ) → List (Result (List ℕ) Flaw) → Ended
whole lba judged = record { done = length (passed judged); sense = first_sense lba judged; frames = passed judged }

-- of a write: a store call that fails comes after the check of its block, ends the prefix there, and leaves other bytes in its place
abbrev pub write_end : (lba : ℕ) → List (Result (List ℕ) Flaw) → Option Stop → Ended
write_end lba judged None = whole lba judged
write_end lba judged (Some s) =
    if ltb s.at (length (passed judged))
    then record { done = s.at; sense = Some (medium_sense WRITE_ERROR (lba + s.at)); frames = take s.at (passed judged) ++ (s.left ∷ []) }
    else whole lba judged

-- of a read: a store call that fails comes before the check of its block, and ends the prefix there
abbrev pub read_end : (lba : ℕ) → List (Result (List ℕ) Flaw) → Option Stop → Ended
read_end lba judged None = whole lba judged
read_end lba judged (Some s) =
    if ltb s.at (length (passed judged) + 1) && ltb s.at (length judged)
    then record { done = s.at; sense = Some (medium_sense UNRECOVERED_READ (lba + s.at)); frames = take s.at (passed judged) }
    else whole lba judged

-- the frames are stored from this index on, or sent, or neither
abbrev pub storing : (at : ℕ) → List (List ℕ) → Ended → Answer
storing at blocks e = record { done = e.done; sense = e.sense; blocks = placed at e.frames blocks; sent = [] }

abbrev pub sending : List (List ℕ) → Ended → Answer
sending blocks e = record { done = e.done; sense = e.sense; blocks = blocks; sent = e.frames }

abbrev pub keeping : List (List ℕ) → Ended → Answer
keeping blocks e = record { done = e.done; sense = e.sense; blocks = blocks; sent = [] }

-- each block judged by itself, from this one of the command on
abbrev pub each : (ℕ → List ℕ → Result (List ℕ) Flaw) → ℕ → List (List ℕ) → List (Result (List ℕ) Flaw)
each judge k [] = []
each judge k (frame ∷ frames) = judge k frame ∷ each judge (k + 1) frames

-- block k of a command whose first block goes to this address; without a label for it, it crosses unaltered
abbrev pub passage : UnitSpec → Rw → (lba : ℕ) → List Label → ℕ → Passage
passage unit c lba labels k = record {
  ty = unit.ty;
  size = unit.size;
  protect = c.protect;
  lba = lba + k;
  rtag = (c.rtag + k) % 2 ^ 32;
  app = c.app;
  mask = c.mask;
  label = slice_get labels k;
}

-- A fault line says that the medium can't store or send the block; one without a label it can.
abbrev pub fails_under : List FaultLine → Option Label → Bool
fails_under faults None = false
fails_under faults (Some label) = fails_of faults label

-- So block k of a command.
abbrev pub fails_at : List FaultLine → List Label → ℕ → Bool
fails_at faults labels k = fails_under faults (slice_get labels k)

-- A write is stored where it passes the target's check and the medium can store it.
abbrev pub stored_unless : Bool → Result (List ℕ) Check → Result (List ℕ) Flaw
stored_unless broken (Err check) = Err (Found check)
stored_unless false (Ok frame) = Ok frame
stored_unless true (Ok frame) = Err (Broken WRITE_ERROR)

-- A read comes to the target's check where the medium can send it.
abbrev pub sent_unless : Bool → Result (List ℕ) Check → Result (List ℕ) Flaw
sent_unless true checked = Err (Broken UNRECOVERED_READ)
sent_unless false (Ok frame) = Ok frame
sent_unless false (Err check) = Err (Found check)

-- a block on its way to the medium, and from it, where the medium may fail
abbrev pub onto_medium : List FaultLine → Passage → List ℕ → Result (List ℕ) Flaw
onto_medium faults b frame = stored_unless (fails_under faults b.label) (to_medium faults b frame)

abbrev pub off_medium : List FaultLine → Passage → List ℕ → Result (List ℕ) Flaw
off_medium faults b stored = sent_unless (fails_under faults b.label) (from_medium faults b stored)

-- what comes of each block of a write of these bytes, and of a read of these blocks
abbrev pub written_by : UnitSpec → Rw → (lba : ℕ) → List FaultLine → List Label → List ℕ → List (Result (List ℕ) Flaw)
written_by unit c lba faults labels out =
    each (λ k frame. onto_medium faults (passage unit c lba labels k) frame) 0 (frames_of (sent_size c.protect unit.size) c.n out)

abbrev pub read_by : UnitSpec → Rw → (lba : ℕ) → List FaultLine → List Label → List (List ℕ) → List (Result (List ℕ) Flaw)
read_by unit c lba faults labels blocks = each (λ k frame. off_medium faults (passage unit c lba labels k) frame) 0 blocks

-- what stands in a block's place when its frame is stored over an old one; without a label it is the frame
abbrev pub kept_under : List FaultLine → Option Label → (old frame : List ℕ) → List ℕ
kept_under faults None old frame = frame
kept_under faults (Some label) old frame = kept faults label old frame

-- of a block that is stored, what stands in its place afterwards
abbrev pub then_kept : List FaultLine → Option Label → (old : List ℕ) → Result (List ℕ) Flaw → Result (List ℕ) Flaw
then_kept faults label old (Ok frame) = Ok (kept_under faults label old frame)
then_kept faults label old (Err flaw) = Err flaw

-- and of each block of a write; the first is block k of the command
abbrev pub kept_over : List FaultLine → List Label → (k : ℕ) → (olds : List (List ℕ)) → List (Result (List ℕ) Flaw) → List (Result (List ℕ) Flaw)
kept_over faults labels k olds [] = []
kept_over faults labels k [] (judged ∷ rest) = judged ∷ rest
kept_over faults labels k (old ∷ olds) (judged ∷ rest) = then_kept faults (slice_get labels k) old judged ∷ kept_over faults labels (k + 1) olds rest

-- the blocks of the unit from this address on
abbrev pub stored_from : Stored → ℕ → ℕ → List (List ℕ)
stored_from unit lba n = take n (drop (lba - unit.first) unit.blocks)

-- byte 12 of READ CAPACITY(16) data: PROT_EN in bit 0, P_TYPE in bits 3 to 1, which is 000b for type 1 (SBC-3, 5.16.2)
abbrev pub protection_byte : PiType → ℕ
protection_byte Zero = 0
protection_byte One = 1
protection_byte Two = 3
protection_byte Three = 5

-- READ CAPACITY(16) data: the last address in bytes 0 to 7, the block length in 8 to 11, the protection in 12
abbrev pub capacity_data : UnitSpec → List ℕ
capacity_data unit =
    to_be_bytes w64 (unit.first + unit.blocks - 1) ++ (to_be_bytes w32 unit.size ++ (protection_byte unit.ty ∷ replicate 19 0))

-- what comes of a request that isn't refused; VERIFY looks at the blocks as they are stored, whatever labels it has
abbrev pub carried_out : Stored → Request → List FaultLine → List Label → List ℕ → Option Stop → Answer
carried_out unit (ReadCapacity len) faults labels out stop =
    record { done = 0; sense = None; blocks = unit.blocks; sent = take (min len 32) (capacity_data (shape_of unit)) ∷ [] }
carried_out unit (Write c) faults labels out stop =
    let lba = nat_abs (wire_address faults labels c) in
    let to = nat_abs (stored_address faults labels c) in
    let judged = kept_over faults labels 0 (stored_from unit to c.n) (written_by (shape_of unit) c lba faults labels out) in
    storing (to - unit.first) unit.blocks (write_end lba judged stop)
carried_out unit (Read c) faults labels out stop =
    let lba = nat_abs (wire_address faults labels c) in
    let fetched = stored_from unit (nat_abs (medium_address faults labels c)) c.n in
    sending unit.blocks (read_end lba (read_by (shape_of unit) c lba faults labels fetched) stop)
carried_out unit (Verify c) faults labels out stop =
    keeping unit.blocks (read_end c.lba (read_by (shape_of unit) c c.lba faults [] (stored_from unit c.lba c.n)) stop)

abbrev pub refused : Stored → Sense → Answer
refused unit sense = record { done = 0; sense = Some sense; blocks = unit.blocks; sent = [] }

abbrev pub answer_unless : Option Sense → Stored → Result Cdb CdbFault → List FaultLine → List Label → List ℕ → Option Stop → Answer
answer_unless (Some sense) unit cdb faults labels out stop = refused unit sense
answer_unless None unit (Ok cdb) faults labels out stop = carried_out unit (request_of cdb) faults labels out stop
answer_unless None unit (Err fault) faults labels out stop = refused unit (illegal (asc_of fault))

-- what the unit answers to this command block: with these faults armed, these labels for its blocks, these bytes to write or room for so many to read, and a store call that fails or none
unfoldable pub target_answer : Stored → List FaultLine → List ℕ → List Label → List ℕ → (room : ℕ) → Option Stop → Answer
target_answer unit faults cdb labels out room stop =
    answer_unless (refusal (shape_of unit) (decoded cdb) faults labels (length out) room) unit (decoded cdb) faults labels out stop
