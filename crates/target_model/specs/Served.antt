use Rattle.std.specs.Prelude.{ℕ, ◌≡◌, ◌+◌, ◌*◌, ◌^◌, ◌<◌, ◌≤◌, ◌⊎◌, List, [], ◌∷◌, length, take, drop, Option, Some, None, Result, Ok, Err}
use Rattle.dix_base.specs.Stores.{StoreState}
use Rattle.dix_base.specs.Told.{Apart, Rose, over}
use Rattle.sense_codes.specs.declared.Sense.{Sense}
use Rattle.cdb_codec.specs.declared.command.Cdb.{Cdb}
use Rattle.cdb_codec.specs.declared.command.Rw.{Rw}
use Rattle.fault_schedule.specs.declared.Label.{Label}
use Rattle.fault_schedule.specs.declared.fault.FaultLine.{FaultLine}
use Rattle.rig_api.specs.Frames.{sent_size, stored_size, frames_of, joined}
use Rattle.rig_api.specs.Target.{Stored, Stop, Answer, Ended, Flaw, carried_out, first_of, flaw_sense, medium_sense, refusals_of, refused, shape_of}
use Rattle.rig_api.specs.declared.request.Request.{Request}
use Rattle.rig_api.specs.declared.units.UnitSpec.{UnitSpec}
use Rattle.rig_api.specs.Telling.{HasCause, at_front, holding}
use Rattle.rig_api.specs.declared.rig.Outcome.{Outcome}
use Rattle.target_model.specs.declared.unit.LogicalUnit.{LogicalUnit}
use Rattle.sense_codes.specs.declared.codes.TheConstants.{WRITE_ERROR, UNRECOVERED_READ}

-- the unit without its blocks
abbrev pub shape_in : LogicalUnit → UnitSpec
shape_in u = record { ty = u.ty; blocks = u.blocks; size = u.size; first = u.first }

-- the bytes of a block in the store
abbrev pub block_bytes : UnitSpec → ℕ
block_bytes u = stored_size u.ty u.size

-- the unit with its blocks as they stand in the store
abbrev pub unit_in : LogicalUnit → List ℕ → Stored
unit_in u bytes = record { ty = u.ty; size = u.size; first = u.first; blocks = frames_of (stored_size u.ty u.size) u.blocks (drop u.at bytes) }

-- the store with these blocks in the unit's place
abbrev pub with_unit : LogicalUnit → List (List ℕ) → List ℕ → List ℕ
with_unit u blocks bytes = over u.at (joined blocks) bytes

-- a block size that is served
abbrev pub IsSize : ℕ → Type 0
IsSize size = (size ≡ 512) ⊎ (size ≡ 4096)

-- Every list has this length.
abbrev pub AllLong : ℕ → List (List ℕ) → Type 0
AllLong n [] = Unit {0}
AllLong n (x ∷ xs) = (length x ≡ n) × AllLong n xs

-- The unit that is found where these blocks stand has them, and all else in the store is as before.
pub record StandsBack (u : LogicalUnit) (blocks : List (List ℕ)) (bytes : List ℕ) : Type 0 where
  pub unit : unit_in u (with_unit u blocks bytes) ≡ holding (unit_in u bytes) blocks
  pub apart : Apart u.at (stored_size u.ty u.size * u.blocks) bytes (with_unit u blocks bytes)

-- What the store tells afterwards, the outcome and what was sent are those of the answer, for some place where the store stopped it, if it did.
pub record Served (u : LogicalUnit) (answer : Option Stop → Answer) (old new : ℕ) (was : List ℕ) (now : Option (List ℕ)) (result : Outcome) (before after : List ℕ) : Type 0 where
  pub stop : Option Stop
  pub cause : HasCause stop (stored_size u.ty u.size) old new
  pub outcome : result ≡ record { done = (answer stop).done; sense = (answer stop).sense }
  pub bytes : now ≡ Some (with_unit u (answer stop).blocks was)
  pub back : StandsBack u (answer stop).blocks was
  pub into : after ≡ at_front (joined (answer stop).sent) before

-- This stands at the place of one accepted block, or the store call failed and left other bytes there.
abbrev pub StoredOrFailed : List ℕ → (place lba old new : ℕ) → List ℕ → Option Sense → Option (List ℕ) → Type 0
StoredOrFailed frame place lba old new was None now = now ≡ Some (over place frame was)
StoredOrFailed frame place lba old new was (Some sense) now =
    Rose old new × (sense ≡ medium_sense WRITE_ERROR lba) × ((left : List ℕ) × (length left ≡ length frame) × (now ≡ Some (over place left was)))

-- how one block of a write ends, of which this stands in its place unless it has a flaw
abbrev pub BlockWritten : Result (List ℕ) Flaw → (size place lba old new : ℕ) → List ℕ → Option Sense → Option (List ℕ) → Type 0
BlockWritten (Err flaw) size place lba old new was result now = (result ≡ Some (flaw_sense flaw lba)) × (now ≡ Some was)
BlockWritten (Ok frame) size place lba old new was result now = (length frame ≡ size) × StoredOrFailed frame place lba old new was result now

-- how one block of a read ends, of which this came at the target: it stands at the front of the buffer, or it has a flaw, or the store call failed
abbrev pub BlockRead : Result (List ℕ) Flaw → (size lba old new : ℕ) → Option Sense → List ℕ → Type 0
BlockRead judged size lba old new None frame = judged ≡ Ok (take size frame)
BlockRead judged size lba old new (Some sense) frame =
    (Rose old new × (sense ≡ medium_sense UNRECOVERED_READ lba)) ⊎ ((flaw : Flaw) × (judged ≡ Err flaw) × (sense ≡ flaw_sense flaw lba))

-- how the blocks of a write end: the frames that were stored stand one after another from this place on
pub record AllWritten (end : Option Stop → Ended) (frame place old new : ℕ) (was : List ℕ) (now : Option (List ℕ)) (result : Outcome) : Type 0 where
  pub stop : Option Stop
  pub cause : HasCause stop frame old new
  pub outcome : result ≡ record { done = (end stop).done; sense = (end stop).sense }
  pub whole : length (joined (end stop).frames) ≡ frame * length (end stop).frames
  pub long : AllLong frame (end stop).frames
  pub bytes : now ≡ Some (over place (joined (end stop).frames) was)

-- how the blocks of a read end: the frames that were sent stand at the front of the buffer
pub record AllRead (end : Option Stop → Ended) (frame old new : ℕ) (result : Outcome) (before after : List ℕ) : Type 0 where
  pub stop : Option Stop
  pub cause : HasCause stop frame old new
  pub outcome : result ≡ record { done = (end stop).done; sense = (end stop).sense }
  pub into : after ≡ at_front (joined (end stop).frames) before

-- ---- the same on a store that tells its bytes

-- what stands in the block's place hangs on what stood there
abbrev pub BlockWrittenOn : (List ℕ → Result (List ℕ) Flaw) → (size place lba : ℕ) → (old new : StoreState) → Option Sense → Type 0
BlockWrittenOn judged size place lba old new result = (bytes : List ℕ) → old.bytes ≡ Some bytes → BlockWritten (judged bytes) size place lba old.faults new.faults bytes result new.bytes

-- what came at the target is read off the store's bytes
abbrev pub BlockReadOn : (List ℕ → Result (List ℕ) Flaw) → (size lba : ℕ) → (old new : StoreState) → Option Sense → List ℕ → Type 0
BlockReadOn judged size lba old new result frame = (bytes : List ℕ) → old.bytes ≡ Some bytes → BlockRead (judged bytes) size lba old.faults new.faults result frame

-- the end is read off the store's bytes
abbrev pub AllWrittenOn : (List ℕ → Option Stop → Ended) → (frame place : ℕ) → (old new : StoreState) → Outcome → Type 0
AllWrittenOn end frame place old new result = (bytes : List ℕ) → old.bytes ≡ Some bytes → AllWritten (end bytes) frame place old.faults new.faults bytes new.bytes result

abbrev pub AllReadOn : (List ℕ → Option Stop → Ended) → (frame : ℕ) → (old new : StoreState) → Outcome → (before after : List ℕ) → Type 0
AllReadOn end frame old new result before after = (bytes : List ℕ) → old.bytes ≡ Some bytes → AllRead (end bytes) frame old.faults new.faults result before after

-- as a read ends, of which nothing is sent
abbrev pub AllVerifiedOn : (List ℕ → Option Stop → Ended) → (frame : ℕ) → (old new : StoreState) → Outcome → Type 0
AllVerifiedOn end frame old new result = (bytes : List ℕ) → old.bytes ≡ Some bytes → (into : List ℕ) × AllRead (end bytes) frame old.faults new.faults result [] into

-- The answer is that of the unit which stands in the store.
abbrev pub ServedOn : LogicalUnit → (Stored → Option Stop → Answer) → (old new : StoreState) → Outcome → (before after : List ℕ) → Type 0
ServedOn u answer old new result before after = (bytes : List ℕ) → old.bytes ≡ Some bytes → Served u (answer (unit_in u bytes)) old.faults new.faults bytes new.bytes result before after

-- ---- answers

abbrev pub answer_after : Option Sense → Stored → Request → List FaultLine → List Label → List ℕ → Option Stop → Answer
answer_after (Some sense) unit request faults labels out stop = refused unit sense
answer_after None unit request faults labels out stop = carried_out unit request faults labels out stop

-- what the unit answers to a command that asks for this
abbrev pub answer_to : Stored → Cdb → Request → List FaultLine → List Label → List ℕ → (room : ℕ) → Option Stop → Answer
answer_to unit cdb request faults labels out room stop =
    answer_after (first_of (refusals_of (shape_of unit) cdb request faults labels (length out) room)) unit request faults labels out stop

-- The unit has so many blocks from this LBA on.
pub record HasBlocks (unit : UnitSpec) (lba count : ℕ) : Type 0 where
  pub first : unit.first ≤ lba
  pub last : lba + count ≤ unit.first + unit.blocks

-- The command moves no tuples that the unit hasn't.
abbrev pub FitsFrame : UnitSpec → Rw → Type 0
FitsFrame unit c = sent_size c.protect unit.size ≤ stored_size unit.ty unit.size

-- The blocks of a command can be moved: their size is served, no tuples move that the unit hasn't, the store has them all from this place on, and places and addresses have 64 bits.
pub record CanMove (unit : UnitSpec) (c : Rw) (lba place len : ℕ) : Type 0 where
  pub size : IsSize unit.size
  pub sent : FitsFrame unit c
  pub held : place + block_bytes unit * c.n ≤ len
  pub fits : place + block_bytes unit * c.n < 2 ^ 64
  pub last : lba + c.n < 2 ^ 64

-- The store has the unit, whose places and addresses have 64 bits.
pub record IsUnit (u : LogicalUnit) (len : ℕ) : Type 0 where
  pub size : IsSize u.size
  pub held : u.at + stored_size u.ty u.size * u.blocks ≤ len
  pub places : u.at + stored_size u.ty u.size * u.blocks < 2 ^ 64
  pub addresses : u.first + u.blocks < 2 ^ 64
