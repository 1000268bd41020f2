use Rattle.std.specs.Prelude.{ℕ, ◌≡◌, ◌+◌, ◌-◌, ◌^◌, min, max, Bool, eqb, leb, ltb, ◌&&◌, ◌⊎◌, Result, Ok, Err, List, [], ◌∷◌, ◌++◌, length, take, drop, slice_index_or, slice_set, Option, Some, None}
use Rattle.dix_base.specs.Told.{Rose, Becomes}
use Rattle.cdb_codec.specs.Passed.{Zero}
use Rattle.fault_schedule.specs.Altered.{byte_at, xored_from}
use Rattle.fault_schedule.specs.declared.Label.{Label}
use Rattle.fault_schedule.specs.declared.fault.FaultLine.{FaultLine}
use Rattle.rig_api.specs.Frames.{joined, stored_size}
use Rattle.rig_api.specs.Image.{units_in, migrated}
use Rattle.rig_api.specs.Target.{Stored, Stop, Answer, target_answer}
use Rattle.rig_api.specs.declared.units.UnitSpec.{UnitSpec}
use Rattle.rig_api.specs.declared.units.Version.{Version}
use Rattle.rig_api.specs.declared.units.Version.TheVariants.{First, Second}
use Rattle.rig_api.specs.Head.{Head, IsHeadOf, head_fault, head_of, units_of, version_in}
use Rattle.rig_api.specs.declared.change.Change.{Change}
use Rattle.rig_api.specs.declared.change.Change.TheVariants.{Flip, Copy}
use Rattle.rig_api.specs.declared.rig.Outcome.{Outcome}
use Rattle.rig_api.specs.declared.rig.RigFault.{RigFault}
use Rattle.rig_api.specs.declared.rig.RigFault.TheVariants.{BadMagic, BadHeader, BadLength, Failed, Memory}

-- what no exchange changes
pub record Standing : Type 0 where
  pub devices : ℕ
  pub head : Head
  pub name : List ℕ
  pub openings : ℕ

-- the units that are devices: those of the head, or none
abbrev pub specs_of : Standing → List UnitSpec
specs_of s = take s.devices (units_of s.head)

abbrev pub no_spec : UnitSpec
no_spec = record { ty = Zero; blocks = 0; size = 0; first = 0 }

-- the unit behind a device, as the head tells it
abbrev pub spec_at : Standing → ℕ → UnitSpec
spec_at s dev = slice_index_or (specs_of s) dev no_spec

abbrev pub greatest : List UnitSpec → ℕ
greatest [] = 0
greatest (u ∷ us) = max u.size (greatest us)

-- the greatest block size of the devices
abbrev pub greatest_size : Standing → ℕ
greatest_size s = greatest (specs_of s)

-- Devices stand on a right head, which is the image's where that is told, and are its units.
pub record StandsOn (s : Standing) (image : Option (List ℕ)) : Type 0 where
  pub right : head_fault s.head ≡ None
  pub devices : s.devices ≡ length (units_of s.head)
  pub told : IsHeadOf s.head image

abbrev pub IsStanding : Standing → Option (List ℕ) → Type 0
IsStanding s image = (s.devices ≡ 0) ⊎ StandsOn s image

-- The stored blocks are those that are found in the image; both are told, or neither.
abbrev pub units_told : Standing → Option (List ℕ) → Option (List Stored)
units_told s None = None
units_told s (Some image) = Some (units_in (specs_of s) image)

-- one more opening, by this name
abbrev pub Opened : List ℕ → Standing → Standing → Type 0
Opened name old new = (new.openings ≡ min (old.openings + 1) (2 ^ 64 - 1)) × (new.name ≡ name)

abbrev pub Stayed : Standing → Standing → Type 0
Stayed old new = (new.openings ≡ old.openings) × (new.name ≡ old.name)

-- Every answer but want of memory comes with one more opening.
abbrev pub OpenedBy : {X : Type 0} → Result X RigFault → List ℕ → Standing → Standing → Type 0
OpenedBy (Ok x) name old new = Opened name old new
OpenedBy (Err Memory) name old new = Unit {0}
OpenedBy (Err Failed) name old new = Opened name old new
OpenedBy (Err BadMagic) name old new = Opened name old new
OpenedBy (Err BadHeader) name old new = Opened name old new
OpenedBy (Err BadLength) name old new = Opened name old new

-- The answer judges no head.
abbrev pub JudgesNone : {X : Type 0} → Result X RigFault → Type 0
JudgesNone (Ok x) = Unit {0}
JudgesNone (Err Memory) = Unit {0}
JudgesNone (Err Failed) = Unit {0}
JudgesNone (Err BadMagic) = ⊥
JudgesNone (Err BadHeader) = ⊥
JudgesNone (Err BadLength) = ⊥

-- The part is the front of the whole, and at least one byte is missing.
pub record IsShortOf (whole part : List ℕ) : Type 0 where
  pub byte : ℕ
  pub rest : List ℕ
  pub whole_is : whole ≡ part ++ (byte ∷ rest)

-- The image is as it was; or it is the front of this one, not all of it, and isn't opened.
abbrev pub LeavesShort : List ℕ → (old new : Option (List ℕ)) → Type 0
LeavesShort whole old new = Becomes (λ was is. (is ≡ was) ⊎ (IsShortOf whole is × (head_fault (head_of is) ≡ None → ⊥))) old new

abbrev pub no_unit : Stored
no_unit = record { ty = Zero; size = 0; first = 0; blocks = [] }

abbrev pub unit_at : List Stored → ℕ → Stored
unit_at us dev = slice_index_or us dev no_unit

-- what the unit answers to this command block
abbrev pub answer_of : List Stored → List FaultLine → ℕ → List ℕ → List Label → List ℕ → (room : ℕ) → Option Stop → Answer
answer_of us armed dev cdb labels out room stop = target_answer (unit_at us dev) armed cdb labels out room stop

abbrev pub holding : Stored → List (List ℕ) → Stored
holding unit blocks = record { ty = unit.ty; size = unit.size; first = unit.first; blocks = blocks }

abbrev pub with_blocks : List Stored → ℕ → List (List ℕ) → List Stored
with_blocks us dev blocks = slice_set us dev (holding (unit_at us dev) blocks)

abbrev pub frame_size : Stored → ℕ
frame_size unit = stored_size unit.ty unit.size

-- Where a store call failed the count rose, and what it left has the length of a block as it is stored.
abbrev pub HasCause : Option Stop → (frame : ℕ) → ℕ → ℕ → Type 0
HasCause None frame old new = Unit {0}
HasCause (Some s) frame old new = Rose old new × (length s.left ≡ frame)

-- these bytes at the front of the buffer
abbrev pub at_front : List ℕ → List ℕ → List ℕ
at_front xs buf = xs ++ drop (length xs) buf

-- The outcome, what is told afterwards and what was sent are those of the answer.
pub record IsAnswer (a : Answer) (us : List Stored) (dev : ℕ) (result : Outcome) (told : Option (List Stored)) (before : List ℕ) (after : List ℕ) : Type 0 where
  pub outcome : result ≡ record { done = a.done; sense = a.sense }
  pub units : told ≡ Some (with_blocks us dev a.blocks)
  pub into : after ≡ at_front (joined a.sent) before

-- the stored block at an address of a device
abbrev pub block_at : List Stored → (dev lba : ℕ) → List ℕ
block_at us dev lba = slice_index_or (unit_at us dev).blocks (lba - (unit_at us dev).first) []

-- the units with this in its place
abbrev pub with_block : List Stored → (dev lba : ℕ) → List ℕ → List Stored
with_block us dev lba block = with_blocks us dev (slice_set (unit_at us dev).blocks (lba - (unit_at us dev).first) block)

-- a stored block after a change: altered as far as it reaches, or another block
abbrev pub changed : List Stored → Change → List ℕ → List ℕ
changed us (Flip off bytes) block = xored_from (byte_at off bytes) 0 block
changed us (Copy dev lba) block = block_at us dev lba

-- the device of which a change takes a block
abbrev pub source_of : Change → ℕ → ℕ
source_of (Flip off bytes) dev = dev
source_of (Copy from lba) dev = from

-- The device has this address.
abbrev pub has_address : UnitSpec → ℕ → Bool
has_address u lba = leb u.first lba && ltb lba (u.first + u.blocks)

-- The change can be made: there are such addresses, and the two blocks have one length.
abbrev pub can_change : Standing → (dev lba : ℕ) → Change → Bool
can_change s dev lba (Flip off bytes) = has_address (spec_at s dev) lba
can_change s dev lba (Copy from at) =
    has_address (spec_at s dev) lba
    && (has_address (spec_at s from) at && eqb (stored_size (spec_at s from).ty (spec_at s from).size) (stored_size (spec_at s dev).ty (spec_at s dev).size))

-- The units that an image tells by itself are the same.
abbrev pub own_units : List ℕ → List Stored
own_units image = units_in (units_of (head_of image)) image

abbrev pub migrated_count : Option Version → List UnitSpec → ℕ
migrated_count None us = 0
migrated_count (Some First) us = length us
migrated_count (Some Second) us = 0

abbrev pub migrated_image : Option Version → List UnitSpec → List ℕ → List ℕ
migrated_image None us image = image
migrated_image (Some First) us image = migrated us image
migrated_image (Some Second) us image = image

-- The image with the header of version 2 that equals its own; one of version 2 stays.
abbrev pub IsMigrated : Head → (old new : Option (List ℕ)) → Type 0
IsMigrated h old new = Becomes (λ was is. is ≡ migrated_image (version_in h) (units_of h) was) old new

-- All is as before behind the header.
abbrev pub KeepsBlocks : (old new : Option (List ℕ)) → Type 0
KeepsBlocks old new = Becomes (λ was is. (length is ≡ length was) × (drop 512 is ≡ drop 512 was)) old new

-- Every stored block is as before.
abbrev pub KeepsUnits : (old new : Option (List ℕ)) → Type 0
KeepsUnits old new = Becomes (λ was is. own_units is ≡ own_units was) old new

-- A refusal leaves the image as it was, but one whose write failed.
abbrev pub LeavesImage : {X : Type 0} → Result X RigFault → (old new : Option (List ℕ)) → Type 0
LeavesImage (Ok x) old new = Unit {0}
LeavesImage (Err Failed) old new = Unit {0}
LeavesImage (Err Memory) old new = new ≡ old
LeavesImage (Err BadMagic) old new = new ≡ old
LeavesImage (Err BadHeader) old new = new ≡ old
LeavesImage (Err BadLength) old new = new ≡ old
