use Rattle.std.specs.Prelude.{ℕ, ◌≡◌, ◌≢◌, ◌+◌, ◌<◌, ◌≤◌, Bool, true, false, not, ◌&&◌, ◌||◌, eqb, if◌then◌else◌, List, [], ◌∷◌, length, slice_index, take, drop, ◌++◌, ℤ}
use Rattle.std.specs.Int.{w32, from_be_bytes, to_be_bytes}
use Rattle.std.specs.List.{All}
use Rattle.pi_guard.specs.Guards.{crc}
use Rattle.pi_tuple.specs.Finds.{has_ref_tag, is_escaped, is_zero}
use Rattle.pi_tuple.specs.Tuples.{ref_tag}
use Rattle.pi_tuple.specs.declared.checks.PiType.{PiType}
use Rattle.fault_schedule.specs.Altered.{byte_at, kept, xored_from}
use Rattle.fault_schedule.specs.declared.fault.Crossing.{Crossing}
use Rattle.fault_schedule.specs.declared.fault.Crossing.TheVariants.{HostToAdapter, AdapterToTarget, TargetToMedium, MediumToTarget, TargetToAdapter, AdapterToHost}
use Rattle.fault_schedule.specs.declared.fault.FaultKind.{FaultKind}
use Rattle.fault_schedule.specs.declared.fault.FaultKind.TheVariants.{Fail, Keep, Shift}
use Rattle.fault_schedule.specs.declared.fault.FaultLine.{FaultLine}
use Rattle.integrity_payload.specs.declared.payload.Owner.{Owner}
use Rattle.bio_core.specs.declared.fate.Why.{Why}
use Rattle.bio_core.specs.declared.fate.Why.TheVariants as why
use Rattle.bio_core.specs.declared.request.Dir.{Dir}
use Rattle.bio_core.specs.declared.request.Dir.TheVariants.{Read, Write}
use Rattle.rig_api.specs.Frames.{data_of, tuple_of}
use Rattle.rig_api.specs.Passing.{is_one}
use Rattle.block_path.specs.Routes.{field_for, host_type, moved, passes, target}
use Rattle.block_path.specs.WayIn.{Delivers as Arrives, Spoils, Stops, WayIn, way_in}
use Rattle.block_path.specs.WayOut.{Fails, Refuses, Stores, WayOut, way_out}
use Rattle.block_path.specs.declared.mode.Mode.{Mode}
use Rattle.walk_laws.specs.Settings.{Block, Setting, route}
use Rattle.walk_laws.specs.PlainMap.{MapEntry}
use Rattle.walk_laws.specs.UnderMap.{stored_as}
use Rattle.mode_map.specs.Finders.{IsCleanBlock, ShowsIn, flip_of, flipped, held_by_host, is_served}
use Rattle.mode_map.specs.NearFlips.{IsNearFlip}
use Rattle.mode_map.specs.declared.failures.Cell.{Cell}
use Rattle.mode_map.specs.declared.failures.Cell.TheVariants.{Found, Medium, NoTuple, Unseen, Where}
use Rattle.mode_map.specs.declared.failures.Failure.{Failure}
use Rattle.mode_map.specs.declared.failures.Failure.TheVariants.{Flip, Lost, MisdirectedRead, MisdirectedWrite, OlderFrame, OtherBlock, Torn, Unreadable}
use Rattle.mode_map.specs.declared.failures.Field.{Field}
use Rattle.mode_map.specs.declared.failures.Field.TheVariants.{App, Data, Guard, Ref}
use Rattle.mode_map.specs.declared.failures.Link.{Link}
use Rattle.mode_map.specs.declared.failures.Link.TheVariants.{OnMedium, OnWire}
use Rattle.mode_map.specs.declared.failures.Place.{Place}
use Rattle.mode_map.specs.declared.failures.Place.TheVariants.{Hit, Home}
use Rattle.mode_map.specs.declared.finder.Seen.{Seen}
use Rattle.mode_map.specs.declared.finder.Seen.TheVariants.{Adapter, Target, Owner as OfOwner}

-- What one failure alone comes to: who finds it, at which op, or what a read delivers that nobody stops.

-- ---- what a run comes to

-- A layer finds something, or the medium tells that it can't, at the write or at the read; or nothing is found, and the read delivers these data. Else the run ended for another reason.
pub data Comes : Type 0 where
  Finds : Seen → Dir → Comes
  ByMedium : Dir → Comes
  Delivers : (body : List ℕ) → Comes
  Ends : Why → Comes

abbrev pub told : Why → Dir → Comes
told (why.Adapter check) dir = Finds Adapter dir
told (why.Target check) dir = Finds Target dir
told (why.Block check) dir = Finds OfOwner dir
told (why.App check) dir = Finds OfOwner dir
told why.Medium dir = ByMedium dir
told (why.Refused key asc ascq) dir = Ends (why.Refused key asc ascq)
told why.Short dir = Ends why.Short

abbrev pub read_end : Setting → WayIn → Comes
read_end m (Stops w) = told w Read
read_end m (Spoils w carried) = told w Read
read_end m (Arrives carried frame) = Delivers (data_of m.size frame)

-- a read of the block, of this stored block, with these faults
abbrev pub read_comes : Setting → Block → Owner → List FaultLine → (stored : List ℕ) → Comes
read_comes m b owner faults stored = read_end m (way_in faults (target faults) (route m b) owner stored)

-- the end of a write where it is refused; where it is accepted, that of the next read, which the frame that it stores decides
abbrev pub write_end : WayOut → (next : List ℕ → Comes) → Comes
write_end (Fails w) next = told w Write
write_end (Refuses w) next = told w Write
write_end (Stores carried stored) next = next stored

-- a write of the block as the host holds it, with these faults, then a read
abbrev pub write_comes : Setting → Block → List FaultLine → MapEntry → (next : List ℕ → Comes) → Comes
write_comes m b faults e next = write_end (way_out faults (target faults) (route m b) (held_by_host m b e)) next

-- ---- the scenes

-- the block as it is properly stored
abbrev pub at_home : Setting → Block → MapEntry → List ℕ
at_home m b e = stored_as m (route m b).lba e

abbrev pub fault_of : Block → Crossing → FaultKind → List FaultLine
fault_of b at kind = record { op = b.op; k = b.k; at = at; kind = kind } ∷ []

-- a write with the flip and a read without one, or a read with it of the block as properly stored
abbrev pub flip_comes : Setting → Block → Owner → Crossing → (off : ℕ) → List ℕ → MapEntry → Comes
flip_comes m b owner HostToAdapter off bytes e = write_comes m b (flip_of b HostToAdapter off bytes) e (read_comes m b owner [])
flip_comes m b owner AdapterToTarget off bytes e = write_comes m b (flip_of b AdapterToTarget off bytes) e (read_comes m b owner [])
flip_comes m b owner TargetToMedium off bytes e = write_comes m b (flip_of b TargetToMedium off bytes) e (read_comes m b owner [])
flip_comes m b owner MediumToTarget off bytes e = read_comes m b owner (flip_of b MediumToTarget off bytes) (at_home m b e)
flip_comes m b owner TargetToAdapter off bytes e = read_comes m b owner (flip_of b TargetToAdapter off bytes) (at_home m b e)
flip_comes m b owner AdapterToHost off bytes e = read_comes m b owner (flip_of b AdapterToHost off bytes) (at_home m b e)

-- ---- which flips

-- the bytes of a frame that a field has: from this one on, and up to that one
abbrev pub field_start : Field → (size : ℕ) → ℕ
field_start Data size = 0
field_start Guard size = size
field_start App size = size + 2
field_start Ref size = size + 4

abbrev pub field_end : Field → (size : ℕ) → ℕ
field_end Data size = size
field_end Guard size = size + 2
field_end App size = size + 4
field_end Ref size = size + 8

-- The flip lies in this field of a block's tuple, and alters some bit of it.
pub record IsTupleFlip (m : Setting) (field : Field) (off : ℕ) (bytes : List ℕ) : Type 0 where
  pub from : field_start field m.size ≤ off
  pub inside : off + length bytes ≤ field_end field m.size
  pub below : All (λ x. x < 256) bytes
  pub place : ℕ
  pub some : slice_index bytes place ≢ 0

-- A flip of the data changes the guards that see it.
abbrev pub IsFlipOf : Setting → Field → Crossing → (off : ℕ) → List ℕ → MapEntry → Type 0
IsFlipOf m Data at off bytes e = ShowsIn m at off bytes e
IsFlipOf m Guard at off bytes e = IsTupleFlip m Guard off bytes
IsFlipOf m App at off bytes e = IsTupleFlip m App off bytes
IsFlipOf m Ref at off bytes e = IsTupleFlip m Ref off bytes

-- On its way to the host the flip turns the reference tag of the address into the virtual block's.
abbrev pub is_turned : Setting → Block → (off : ℕ) → List ℕ → Bool
is_turned m b off bytes = eqb (from_be_bytes w32 (xored_from (byte_at off bytes) (m.size + 4) (to_be_bytes w32 (ref_tag (route m b).lba)))) (ref_tag b.virt)

-- the data that a read delivers where nobody finds the flip
abbrev pub flipped_data : Field → (off : ℕ) → List ℕ → List ℕ → List ℕ
flipped_data Data off bytes body = flipped off bytes body
flipped_data Guard off bytes body = body
flipped_data App off bytes body = body
flipped_data Ref off bytes body = body

-- ---- who asks for what

-- a target of a block's tuple (SBC-3, 4.22.4 and the RDPROTECT and WRPROTECT tables), and an adapter of one that is passed to it
abbrev pub target_asks_guard : Mode → PiType → Bool
target_asks_guard mode ty = not (is_zero ty) && not (eqb (field_for mode ty) 3)

abbrev pub target_asks_tag : Mode → PiType → Bool
target_asks_tag mode ty = has_ref_tag ty && (eqb (field_for mode ty) 1 || (eqb (field_for mode ty) 0 && is_one ty))

abbrev pub adapter_asks_tag : Mode → PiType → Bool
adapter_asks_tag mode ty = passes mode ty && has_ref_tag ty

-- The crossing carries a tuple.
abbrev pub carries : Mode → PiType → Crossing → Bool
carries mode ty HostToAdapter = mode.dix
carries mode ty AdapterToTarget = passes mode ty
carries mode ty TargetToMedium = not (is_zero ty)
carries mode ty MediumToTarget = not (is_zero ty)
carries mode ty TargetToAdapter = passes mode ty
carries mode ty AdapterToHost = mode.dix

-- ---- the cells

abbrev pub found_if : Bool → Seen → Dir → Cell → Cell
found_if asks layer dir other = if asks then Found layer dir else other

-- of a stored block whose guard isn't that of its data, and of one that bears another tag than its address's
abbrev pub stored_guard : Mode → PiType → Cell
stored_guard mode ty = found_if (target_asks_guard mode ty) Target Read (found_if (passes mode ty) Adapter Read Unseen)

abbrev pub stored_tag : Mode → PiType → Cell
stored_tag mode ty = found_if (target_asks_tag mode ty) Target Read (found_if (adapter_asks_tag mode ty) Adapter Read Unseen)

-- the guard doesn't fit the data, at each crossing that carries a tuple
abbrev pub guard_cell : Mode → PiType → Crossing → Cell
guard_cell mode ty HostToAdapter = Found Adapter Write
guard_cell mode ty AdapterToTarget = found_if (target_asks_guard mode ty) Target Write (stored_guard mode ty)
guard_cell mode ty TargetToMedium = stored_guard mode ty
guard_cell mode ty MediumToTarget = stored_guard mode ty
guard_cell mode ty TargetToAdapter = Found Adapter Read
guard_cell mode ty AdapterToHost = Found OfOwner Read

-- the reference tag is another than that of the block's address; on its way to the host it may be the virtual block's
abbrev pub tag_cell : Mode → PiType → Crossing → (turned : Bool) → Cell
tag_cell mode ty HostToAdapter turned = found_if (has_ref_tag (host_type ty)) Adapter Write Unseen
tag_cell mode ty AdapterToTarget turned = found_if (target_asks_tag mode ty) Target Write (stored_tag mode ty)
tag_cell mode ty TargetToMedium turned = stored_tag mode ty
tag_cell mode ty MediumToTarget turned = stored_tag mode ty
tag_cell mode ty TargetToAdapter turned = found_if (has_ref_tag ty) Adapter Read Unseen
tag_cell mode ty AdapterToHost turned = found_if (has_ref_tag (host_type ty) && not turned) OfOwner Read Unseen

abbrev pub flip_cell : Field → Crossing → Mode → PiType → (turned : Bool) → Cell
flip_cell Data at mode ty turned = if carries mode ty at then guard_cell mode ty at else Unseen
flip_cell Guard at mode ty turned = if carries mode ty at then guard_cell mode ty at else NoTuple
flip_cell App at mode ty turned = if carries mode ty at then Unseen else NoTuple
flip_cell Ref at mode ty turned = if carries mode ty at then tag_cell mode ty at turned else NoTuple

-- A read's command that names another address: in type 1 the target finds there what it wants, in type 2 it wants the tag that the command tells.
abbrev pub astray_cell : Mode → PiType → Cell
astray_cell mode ty = found_if (target_asks_tag mode ty && not (is_one ty)) Target Read (found_if (adapter_asks_tag mode ty) Adapter Read Unseen)

-- A write's: in type 1 the target finds another tag than it wants, where it asks; where none travels it makes the tuple of the other address.
abbrev pub refused_astray : Mode → PiType → Bool
refused_astray mode ty = passes mode ty && (target_asks_tag mode ty && is_one ty)

abbrev pub hit_by_wire : Mode → PiType → Cell
hit_by_wire mode ty = if passes mode ty then found_if (refused_astray mode ty) Target Write (stored_tag mode ty) else Unseen

abbrev pub read_astray : Link → Mode → PiType → Cell
read_astray OnWire mode ty = astray_cell mode ty
read_astray OnMedium mode ty = stored_tag mode ty

abbrev pub written_astray : Link → Place → Mode → PiType → Cell
written_astray OnWire Home mode ty = found_if (refused_astray mode ty) Target Write Unseen
written_astray OnWire Hit mode ty = hit_by_wire mode ty
written_astray OnMedium Home mode ty = Unseen
written_astray OnMedium Hit mode ty = stored_tag mode ty

-- The cell of a failure, where its condition holds or doesn't: that a flip turns the address's tag into the virtual block's; that the guard that a torn write leaves is that of the data that it leaves, or the tuple that it leaves is an escape.
abbrev pub cell_if : Failure → Mode → PiType → (holds : Bool) → Cell
cell_if (Flip field at) mode ty holds = flip_cell field at mode ty holds
cell_if (MisdirectedRead link) mode ty holds = read_astray link mode ty
cell_if (MisdirectedWrite link read) mode ty holds = written_astray link read mode ty
cell_if Lost mode ty holds = Unseen
cell_if Torn mode ty holds = if holds then Unseen else stored_guard mode ty
cell_if (Unreadable dir) mode ty holds = Medium dir
cell_if OtherBlock mode ty holds = stored_tag mode ty
cell_if OlderFrame mode ty holds = Unseen

abbrev pub is_unseen : Cell → Bool
is_unseen (Found layer at) = false
is_unseen (Medium at) = false
is_unseen Unseen = true
is_unseen Where = false
is_unseen NoTuple = false

-- It depends where one of the two is unseen and the other isn't.
abbrev pub joined : (holds other : Cell) → Cell
joined holds other = if is_unseen holds && not (is_unseen other) then Where else other

abbrev pub failure_cell : Failure → Mode → PiType → Cell
failure_cell failure mode ty = joined (cell_if failure mode ty true) (cell_if failure mode ty false)

-- what a run comes to where this is the cell, and the read delivers these data if nobody finds anything
abbrev pub expected : Cell → (body : List ℕ) → Comes
expected (Found layer at) body = Finds layer at
expected (Medium at) body = ByMedium at
expected Unseen body = Delivers body
expected Where body = Delivers body
expected NoTuple body = Delivers body

-- ---- the law

-- Each flip of this field comes to its cell, in a setting of a served mode, of a block whose tuple is no escape, whoever reads.
abbrev pub AreFlipsFound : Field → Type 0
AreFlipsFound field = (m : Setting) (b : Block) (owner : Owner) (at : Crossing) (e : MapEntry) (off : ℕ) (bytes : List ℕ) → is_served m.mode.protect ≡ true → IsCleanBlock m e → IsFlipOf m field at off bytes e →
    flip_comes m b owner at off bytes e ≡ expected (cell_if (Flip field at) m.mode m.ty (is_turned m b off bytes)) (flipped_data field off bytes e.body)

-- A stored frame, no escape, whose guard isn't that of its data.
pub record IsSpoilt (m : Setting) (frame : List ℕ) : Type 0 where
  pub size : length frame ≡ m.size + 8
  pub bytes : All (λ x. x < 256) frame
  pub unescaped : is_escaped m.ty (tuple_of m.size frame) ≡ false
  pub wrong : (tuple_of m.size frame).guard ≢ crc (data_of m.size frame)

pub record AreFailuresFound : Type 0 where
  -- where the flip changes the guards that see it
  pub data_flips : AreFlipsFound Data
  -- where it is of one byte, or of two, not both by FFh
  pub near_flips : (m : Setting) (b : Block) (owner : Owner) (at : Crossing) (e : MapEntry) (off : ℕ) (bytes : List ℕ) → is_served m.mode.protect ≡ true → IsCleanBlock m e → IsNearFlip m off bytes →
      flip_comes m b owner at off bytes e ≡ expected (failure_cell (Flip Data at) m.mode m.ty) (flipped off bytes e.body)
  -- in the block's place stands one that was stored at another address, or one that was stored there before
  pub other_block : (m : Setting) (b : Block) (owner : Owner) (e : MapEntry) (lba : ℕ) → is_served m.mode.protect ≡ true → IsCleanBlock m e → ref_tag lba ≢ ref_tag (route m b).lba →
      read_comes m b owner [] (stored_as m lba e) ≡ expected (failure_cell OtherBlock m.mode m.ty) e.body
  pub older_frame : (m : Setting) (b : Block) (owner : Owner) (old : MapEntry) → is_served m.mode.protect ≡ true → IsCleanBlock m old →
      read_comes m b owner [] (at_home m b old) ≡ expected (failure_cell OlderFrame m.mode m.ty) old.body
  -- a write of which nothing is kept over an older block
  pub lost : (m : Setting) (b : Block) (owner : Owner) (old e : MapEntry) → is_served m.mode.protect ≡ true → IsCleanBlock m old → IsCleanBlock m e →
      write_comes m b (fault_of b TargetToMedium (Keep 0)) e (λ stored. read_comes m b owner [] (kept (fault_of b TargetToMedium (Keep 0)) (route m b).label (at_home m b old) stored))
      ≡ expected (failure_cell Lost m.mode m.ty) old.body
  -- a read for which the medium looks elsewhere, at an address with another tag
  pub misread : (m : Setting) (b : Block) (owner : Owner) (n : ℤ) (e : MapEntry) → is_served m.mode.protect ≡ true → IsCleanBlock m e → ref_tag (moved (route m b).lba n) ≢ ref_tag (route m b).lba →
      read_comes m b owner (fault_of b MediumToTarget (Shift n)) (stored_as m (moved (route m b).lba n) e) ≡ expected (failure_cell (MisdirectedRead OnMedium) m.mode m.ty) e.body
  -- a read whose command names another address
  pub misread_wire : (m : Setting) (b : Block) (owner : Owner) (n : ℤ) (e : MapEntry) → is_served m.mode.protect ≡ true → IsCleanBlock m e → ref_tag (moved (route m b).lba n) ≢ ref_tag (route m b).lba →
      read_comes m b owner (fault_of b AdapterToTarget (Shift n)) (stored_as m (moved (route m b).lba n) e) ≡ expected (failure_cell (MisdirectedRead OnWire) m.mode m.ty) e.body
  -- a write that the medium stores elsewhere: then the block that was meant is read, which is as it was, or the one at the other address
  pub written_home : (m : Setting) (b : Block) (owner : Owner) (n : ℤ) (old e : MapEntry) → is_served m.mode.protect ≡ true → IsCleanBlock m old → IsCleanBlock m e →
      write_comes m b (fault_of b TargetToMedium (Shift n)) e (λ stored. read_comes m b owner [] (at_home m b old)) ≡ expected (failure_cell (MisdirectedWrite OnMedium Home) m.mode m.ty) old.body
  pub written_hit : (m : Setting) (b hit : Block) (owner : Owner) (n : ℤ) (e : MapEntry) → is_served m.mode.protect ≡ true → IsCleanBlock m e → (route m hit).lba ≡ moved (route m b).lba n → ref_tag (moved (route m b).lba n) ≢ ref_tag (route m b).lba →
      write_comes m b (fault_of b TargetToMedium (Shift n)) e (read_comes m hit owner []) ≡ expected (failure_cell (MisdirectedWrite OnMedium Hit) m.mode m.ty) e.body
  -- a block that the medium can't store, over whatever stands there, or can't send, whatever it is
  pub unwritten : (m : Setting) (b : Block) (e : MapEntry) (next : List ℕ → Comes) → is_served m.mode.protect ≡ true → IsCleanBlock m e →
      write_comes m b (fault_of b TargetToMedium Fail) e next ≡ expected (failure_cell (Unreadable Write) m.mode m.ty) []
  pub unread : (m : Setting) (b : Block) (owner : Owner) (stored : List ℕ) → read_comes m b owner (fault_of b MediumToTarget Fail) stored ≡ expected (failure_cell (Unreadable Read) m.mode m.ty) []
  -- a write of which a part is kept, where the guard that is left isn't that of the data that are left
  pub torn : (m : Setting) (b : Block) (owner : Owner) (n : ℕ) (old e : MapEntry) (carried stored : List ℕ) → is_served m.mode.protect ≡ true → m.mode.mask ≡ 0 → is_zero m.ty ≡ false →
      way_out [] (target []) (route m b) (held_by_host m b e) ≡ Stores carried stored → IsSpoilt m (take n stored ++ drop n (at_home m b old)) →
      write_comes m b (fault_of b TargetToMedium (Keep n)) e (λ s. read_comes m b owner [] (kept (fault_of b TargetToMedium (Keep n)) (route m b).label (at_home m b old) s))
      ≡ expected (cell_if Torn m.mode m.ty false) (data_of m.size (take n stored ++ drop n (at_home m b old)))
