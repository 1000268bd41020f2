use Rattle.std.specs.Prelude.{ℕ, ◌≡◌, ◌+◌, ◌^◌, ◌<◌, ◌≤◌, Bool, true, false, not, ◌&&◌, ◌||◌, eqb, if◌then◌else◌, List, [], ◌∷◌, length, Option, Some, None}
use Rattle.std.specs.List.{All}
use Rattle.pi_guard.specs.Guards.{crc, guard_of}
use Rattle.pi_tuple.specs.Finds.{is_escaped, is_zero}
use Rattle.pi_tuple.specs.declared.checks.PiType.{PiType}
use Rattle.fault_schedule.specs.Altered.{byte_at, xored_from}
use Rattle.fault_schedule.specs.declared.fault.Crossing.{Crossing}
use Rattle.fault_schedule.specs.declared.fault.Crossing.TheVariants.{HostToAdapter, AdapterToTarget, TargetToMedium, MediumToTarget, TargetToAdapter, AdapterToHost}
use Rattle.fault_schedule.specs.declared.fault.FaultKind.TheVariants.{Flip}
use Rattle.fault_schedule.specs.declared.fault.FaultLine.{FaultLine}
use Rattle.integrity_payload.specs.declared.payload.Owner.{Owner}
use Rattle.bio_core.specs.declared.fate.Why.{Why}
use Rattle.bio_core.specs.declared.fate.Why.TheVariants as why
use Rattle.rig_api.specs.Frames.{frame_of}
use Rattle.block_path.specs.Routes.{host_type, passes, target}
use Rattle.block_path.specs.WayIn.{Delivers, Spoils, Stops, WayIn, way_in}
use Rattle.block_path.specs.WayOut.{Fails, Refuses, Stores, WayOut, way_out}
use Rattle.block_path.specs.declared.mode.Mode.{Mode}
use Rattle.walk_laws.specs.Settings.{Block, Setting, route}
use Rattle.walk_laws.specs.PlainMap.{MapEntry, tag_of}
use Rattle.walk_laws.specs.UnderMap.{stored_as}
use Rattle.mode_map.specs.NearFlips.{IsNearFlip}
use Rattle.mode_map.specs.declared.finder.Seen.{Seen}
use Rattle.mode_map.specs.declared.finder.Seen.TheVariants.{Adapter, Target, Owner as OfOwner}

-- Which layer finds a flip in a block's data.

-- the protect fields of commands that transfer tuples
abbrev pub is_served : ℕ → Bool
is_served p = eqb p 1 || (eqb p 3 || eqb p 4)

-- the layer of a finding
abbrev pub seen_by : Why → Option Seen
seen_by (why.Adapter check) = Some Adapter
seen_by (why.Target check) = Some Target
seen_by (why.Block check) = Some OfOwner
seen_by (why.App check) = Some OfOwner
seen_by why.Medium = None
seen_by (why.Refused key asc ascq) = None
seen_by why.Short = None

abbrev pub seen_on_way_in : WayIn → Option Seen
seen_on_way_in (Stops w) = seen_by w
seen_on_way_in (Spoils w carried) = seen_by w
seen_on_way_in (Delivers carried frame) = None

-- the layer that finds something in this stored block as it is read
abbrev pub seen_in_read : Setting → Block → Owner → List FaultLine → (stored : List ℕ) → Option Seen
seen_in_read m b owner faults stored = seen_on_way_in (way_in faults (target faults) (route m b) owner stored)

-- the layer that refuses a block of a write or, where it is stored, the one that finds something in it at the next read, which has no fault
abbrev pub seen_on_way_out : Setting → Block → Owner → WayOut → Option Seen
seen_on_way_out m b owner (Fails w) = seen_by w
seen_on_way_out m b owner (Refuses w) = seen_by w
seen_on_way_out m b owner (Stores carried stored) = seen_in_read m b owner [] stored

abbrev pub seen_in_write : Setting → Block → Owner → List FaultLine → (frame : List ℕ) → Option Seen
seen_in_write m b owner faults frame = seen_on_way_out m b owner (way_out faults (target faults) (route m b) frame)

-- one flip, of these bytes from a place of the block on, at this crossing
abbrev pub flip_of : Block → Crossing → (off : ℕ) → List ℕ → List FaultLine
flip_of b at off bytes = record { op = b.op; k = b.k; at = at; kind = Flip off bytes } ∷ []

-- the block as the host has it, with its proper tuple where it has tuples
abbrev pub held_by_host : Setting → Block → MapEntry → List ℕ
held_by_host m b e = if m.mode.dix then frame_of e.body (record { guard = guard_of m.mode.kind e.body; app = e.app; rtag = tag_of (host_type m.ty) b.virt e.own }) else e.body

-- the layer that finds the flip: of a write of the block, or of a read of it as it is stored under its proper tuple
abbrev pub seen_in : Setting → Block → Owner → Crossing → (off : ℕ) → List ℕ → MapEntry → Option Seen
seen_in m b owner HostToAdapter off bytes e = seen_in_write m b owner (flip_of b HostToAdapter off bytes) (held_by_host m b e)
seen_in m b owner AdapterToTarget off bytes e = seen_in_write m b owner (flip_of b AdapterToTarget off bytes) (held_by_host m b e)
seen_in m b owner TargetToMedium off bytes e = seen_in_write m b owner (flip_of b TargetToMedium off bytes) (held_by_host m b e)
seen_in m b owner MediumToTarget off bytes e = seen_in_read m b owner (flip_of b MediumToTarget off bytes) (stored_as m (route m b).lba e)
seen_in m b owner TargetToAdapter off bytes e = seen_in_read m b owner (flip_of b TargetToAdapter off bytes) (stored_as m (route m b).lba e)
seen_in m b owner AdapterToHost off bytes e = seen_in_read m b owner (flip_of b AdapterToHost off bytes) (stored_as m (route m b).lba e)

-- A block whose tuple is no escape, in a setting whose mask is 0.
pub record IsCleanBlock (m : Setting) (e : MapEntry) : Type 0 where
  pub size : length e.body ≡ m.size
  pub bytes : All (λ x. x < 256) e.body
  pub app : e.app < 2 ^ 16
  pub own : e.own < 2 ^ 32
  pub unescaped : is_escaped (host_type m.ty) (record { guard = 0; app = e.app; rtag = e.own }) ≡ false
  pub mask : m.mode.mask ≡ 0

abbrev pub is_host : Crossing → Bool
is_host HostToAdapter = true
is_host AdapterToTarget = false
is_host TargetToMedium = false
is_host MediumToTarget = false
is_host TargetToAdapter = false
is_host AdapterToHost = true

-- the data after the flip
abbrev pub flipped : (off : ℕ) → List ℕ → List ℕ → List ℕ
flipped off bytes body = xored_from (byte_at off bytes) 0 body

-- The flip is in the data, after it the CRC of the data is another, and on a crossing at the host the host's guard is too.
pub record ShowsIn (m : Setting) (at : Crossing) (off : ℕ) (bytes : List ℕ) (e : MapEntry) : Type 0 where
  pub inside : off + length bytes ≤ m.size
  pub below : All (λ x. x < 256) bytes
  pub crc_shows : crc (flipped off bytes e.body) ≡ crc e.body → ⊥
  pub host_shows : is_host at ≡ true → guard_of m.mode.kind (flipped off bytes e.body) ≡ guard_of m.mode.kind e.body → ⊥

-- ---- the finders

-- Of a block from the medium the target checks the guard, but for protect field 011b, under which the adapter does; without a tuple nobody does.
abbrev pub checks_stored : Mode → PiType → Option Seen
checks_stored mode ty = if is_zero ty then None else (if mode.dif && eqb mode.protect 3 then Some Adapter else Some Target)

abbrev pub finder : Mode → PiType → Crossing → Option Seen
finder mode ty HostToAdapter = if mode.dix then Some Adapter else None
finder mode ty AdapterToTarget = if passes mode ty then checks_stored mode ty else None
finder mode ty TargetToMedium = checks_stored mode ty
finder mode ty MediumToTarget = checks_stored mode ty
finder mode ty TargetToAdapter = if passes mode ty then Some Adapter else None
finder mode ty AdapterToHost = if mode.dix then Some OfOwner else None

-- In a setting of this mode and type, and of whatever volume, this layer is the first to find a flip at this crossing, of a write of the block or of a read of it as it is stored under its proper tuple; or none does.
pub record IsFirstFinder (mode : Mode) (ty : PiType) (at : Crossing) (first : Option Seen) : Type 0 where
  -- where the flip changes the guards that see it
  pub found : (m : Setting) (b : Block) (owner : Owner) (e : MapEntry) (off : ℕ) (bytes : List ℕ) → m.mode ≡ mode → m.ty ≡ ty → IsCleanBlock m e → ShowsIn m at off bytes e → seen_in m b owner at off bytes e ≡ first
  -- where it is of one byte, or of two, not both by FFh
  pub near : (m : Setting) (b : Block) (owner : Owner) (e : MapEntry) (off : ℕ) (bytes : List ℕ) → m.mode ≡ mode → m.ty ≡ ty → IsCleanBlock m e → IsNearFlip m off bytes → seen_in m b owner at off bytes e ≡ first

-- For each mode of a served protect field and each crossing, the finder is the first that finds such a flip.
abbrev pub AreFirstFinders : PiType → Type 0
AreFirstFinders ty = (mode : Mode) (at : Crossing) → is_served mode.protect ≡ true → IsFirstFinder mode ty at (finder mode ty at)
