-- A block of a mirror with a leg on which nothing alters it and no request fails for it at the medium: what is asked of it, and what is said of it.
use Rattle.std.specs.Prelude.{ℕ, ◌≡◌, ◌+◌, ◌-◌, ◌*◌, ◌<◌, ◌≤◌, ◌⊎◌, Bool, true, false, eqb, is_none, is_some, nat_le, nat_lt, not, ◌&&◌, ◌||◌, if◌then◌else◌, List, [], ◌∷◌, drop, get_or, length, take, None, Some}
use Rattle.std.specs.List.{list_any}
use Rattle.pi_guard.specs.Guards.{crc}
use Rattle.pi_tuple.specs.Tuples.{ref_tag}
use Rattle.pi_tuple.specs.declared.checks.PiType.TheVariants.{One}
use Rattle.fault_schedule.specs.declared.fault.Crossing.{Crossing}
use Rattle.fault_schedule.specs.declared.fault.Crossing.TheVariants.{MediumToTarget, TargetToMedium}
use Rattle.page_pool.specs.declared.segs.Seg.{Seg}
use Rattle.page_pool.specs.Pages.{Wrote, bytes_in}
use Rattle.page_pool.specs.Places.{range_of, total}
use Rattle.rig_api.specs.Frames.{frame_of}
use Rattle.rig_api.specs.State.{RigState}
use Rattle.rig_api.specs.Target.{Stored}
use Rattle.rig_api.specs.declared.change.Change.{Change}
use Rattle.dix_adapter.specs.Ways.{blocks_told}
use Rattle.block_path.specs.Senses.{is_medium_why}
use Rattle.stack_ops.specs.Ops.{first_virt}
use Rattle.stack_ops.specs.declared.op.Op.{Op}
use Rattle.stack_ops.specs.declared.op.Op.TheVariants.{Fetch, FetchPi, Fill, Overwrite, Put, Seal, Show, Wait, Write, WritePi}
use Rattle.stack_ops.specs.declared.reply.BadBlock.{BadBlock}
use Rattle.stack_ops.specs.declared.reply.Reply.{Reply}
use Rattle.stack_ops.specs.declared.reply.Reply.TheVariants.{Bad, Medium, Shown, Silent, Whole}
use Rattle.volume_table.specs.declared.device.DeviceInfo.{DeviceInfo}
use Rattle.volume_table.specs.Places.{place_in}
use Rattle.walk_laws.specs.Detectable.{found}
use Rattle.walk_laws.specs.FirstLayer.{AtTarget, has_flip, is_stored_whole}
use Rattle.walk_laws.specs.Past.{Brought, brought_by}
use Rattle.walk_laws.specs.PlainMap.{as_expected}
use Rattle.walk_laws.specs.ReadsAs.{listed_in}
use Rattle.walk_laws.specs.Settings.{Block}
use Rattle.walk_laws.specs.UnderMap.{IsClean, address_of, home}
use Rattle.script_text.specs.declared.script.Script.{Script}
use Rattle.run_premises.specs.Forms.{is_shown, kind_at, mask_of}
use Rattle.mirror_laws.specs.Mirror.{blocks_in, marks_of}
use Rattle.mirror_laws.specs.OneGood.{HoldsProper, on_leg}
use Rattle.mirror_volume.specs.LegsPassed.{table_of}
use Rattle.mirror_volume.specs.LegRuns.{LegRun, replies_of}
use Rattle.mirror_volume.specs.OnOps.{Sides}
use Rattle.mirror_volume.specs.Standing.{half_of, mirror_setting, op_at}

-- ---- which block on a leg the requests name for the medium

-- The reply of a request whose first virtual block is `first` lists virtual block v for the medium.
abbrev pub lists_medium : (first v : ℕ) → Reply → Bool
lists_medium first v Silent = false
lists_medium first v Whole = false
lists_medium first v (Bad blocks) = list_any (λ (b : BadBlock). eqb (first + b.k) v && is_medium_why b.why) blocks
lists_medium first v (Shown bytes) = false
lists_medium first v Medium = false

-- So does one of the replies to these ops.
abbrev pub names_medium : (v : ℕ) → List Op → List Reply → Bool
names_medium v [] replies = false
names_medium v (op ∷ ops) [] = false
names_medium v (op ∷ ops) (reply ∷ replies) = lists_medium (first_virt op) v reply || names_medium v ops replies

-- So does one of these requests on the legs.
abbrev pub fails_on_leg : (v : ℕ) → List LegRun → Bool
fails_on_leg v runs = list_any (λ (r : LegRun). names_medium v r.own.ops (replies_of r)) runs

-- ---- a block that nothing alters on a leg

-- the virtual block at which block u stands on a leg
abbrev pub place_on : Script → List DeviceInfo → (leg : Bool) → (u : ℕ) → ℕ
place_on s devices leg u = on_leg leg u (half_of s devices + u)

-- what is stored of it there
abbrev pub stored_on : Script → List DeviceInfo → (us left : List Stored) → (leg : Bool) → (u : ℕ) → List ℕ
stored_on s devices us left leg u = get_or (blocks_told left) (home (mirror_setting s devices us) (place_on s devices leg u)) []

-- block u of a request, as fault lines name it on a leg: op number `number`
abbrev pub named_on : Script → List DeviceInfo → (leg : Bool) → (u : ℕ) → Op → (number : ℕ) → Block
named_on s devices leg u op number = record { op = number; k = on_leg leg (u - first_virt op) (blocks_in op + (u - first_virt op)); virt = place_on s devices leg u }

-- The op has it, as this block of its request.
abbrev pub has_block : (v n u : ℕ) → Bool
has_block v n u = nat_le v u && nat_lt u (v + n)

-- The stored block of u on a leg has this address.
abbrev pub HasAddress : Script → List DeviceInfo → (leg : Bool) → (u dev lba : ℕ) → Type 0
HasAddress s devices leg u dev lba = (dev ≡ (place_in (table_of s devices).entries (place_on s devices leg u)).0) × (lba ≡ (place_in (table_of s devices).entries (place_on s devices leg u)).1)

-- A write of block u has the expected application tag, which is no escape; an overwrite is of another stored block than that of u on this leg.
abbrev pub LeavesRight : Script → List DeviceInfo → (us : List Stored) → (u : ℕ) → (leg : Bool) → Op → Type 0
LeavesRight s devices us u leg (Fill seg byte) = Unit {0}
LeavesRight s devices us u leg (Put page off bytes) = Unit {0}
LeavesRight s devices us u leg (Show seg) = Unit {0}
LeavesRight s devices us u leg (Seal n body tuples app rtag) = Unit {0}
LeavesRight s devices us u leg (Write v n body app) = has_block v n u ≡ true → (as_expected (mirror_setting s devices us) app ≡ true) × (eqb app 0xFFFF ≡ false)
LeavesRight s devices us u leg (Fetch v n body) = Unit {0}
LeavesRight s devices us u leg (WritePi v n body tuples) = Unit {0}
LeavesRight s devices us u leg (FetchPi v n body tuples) = Unit {0}
LeavesRight s devices us u leg (Overwrite dev lba change) = HasAddress s devices leg u dev lba → ⊥
LeavesRight s devices us u leg Wait = Unit {0}

-- Op k, from 0, is a request of block u, and a fault line alters the block at this crossing on this leg.
pub record IsAltered (s : Script) (devices : List DeviceInfo) (us : List Stored) (leg : Bool) (u k : ℕ) (at : Crossing) : Type 0 where
  pub under : k < length s.ops
  pub here : has_block (first_virt (op_at s.ops k)) (blocks_in (op_at s.ops k)) u ≡ true
  pub flips : has_flip (mirror_setting s devices us) (named_on s devices leg u (op_at s.ops k) (k + 1)) at ≡ true

-- All lines that name this block of a request at this crossing are shown together: they leave its tags, and its guard shows the rest.
abbrev pub IsShownAt : Script → (at : Crossing) → Block → Type 0
IsShownAt s at b = is_shown s.block (kind_at s.mode.kind at) (mask_of s.block s.faults at (record { op = b.op; k = b.k })) ≡ true

-- The volume is of type 1, and commands have protect field 001b. Block u is clean on both legs, with the same data and application tag, and each write of it has the expected application tag, which is no escape.
-- On this leg no fault line alters it, and no op overwrites it. On the other its lines are shown wherever they alter it, and none alters it on its way from the medium if one does on its way there. On neither is but a part of it stored, or nothing: a leg that was told of a write that is lost is believed.
pub record IsUnaltered (s : Script) (devices : List DeviceInfo) (us : List Stored) (u : ℕ) (leg : Bool) : Type 0 where
  pub ty : (table_of s devices).ty ≡ One
  pub protect : s.mode.protect ≡ 1
  pub inside : u < half_of s devices
  pub clean : (leg : Bool) → IsClean (mirror_setting s devices us) (address_of (mirror_setting s devices us) (place_on s devices leg u)) (stored_on s devices us us leg u)
  pub equal : brought_by s.block (stored_on s devices us us true u) ≡ brought_by s.block (stored_on s devices us us false u)
  pub unnamed : (k : ℕ) (at : Crossing) → IsAltered s devices us leg u k at → ⊥
  pub shown : (k : ℕ) (at : Crossing) → IsAltered s devices us (not leg) u k at → IsShownAt s at (named_on s devices (not leg) u (op_at s.ops k) (k + 1))
  pub apart : (j k : ℕ) → IsAltered s devices us (not leg) u j TargetToMedium → IsAltered s devices us (not leg) u k MediumToTarget → ⊥
  pub stored_whole : (k : ℕ) → k < length s.ops → has_block (first_virt (op_at s.ops k)) (blocks_in (op_at s.ops k)) u ≡ true → (on : Bool) → is_stored_whole (mirror_setting s devices us) (named_on s devices on u (op_at s.ops k) (k + 1)) ≡ true
  pub right : (k : ℕ) → k < length s.ops → LeavesRight s devices us u leg (op_at s.ops k)

-- ---- an overwrite of it on the other leg

-- the stored block of these data and this application tag: under their CRC, and the tag of the address
abbrev pub frame_on : Script → List DeviceInfo → (us : List Stored) → (leg : Bool) → (u : ℕ) → Brought → List ℕ
frame_on s devices us leg u e = frame_of e.body (record { guard = crc e.body; app = e.app; rtag = ref_tag (address_of (mirror_setting s devices us) (place_on s devices leg u)) })

-- The target's check finds this stored block bad in each request of block u on a leg, from op k on, counted from 0: as it arrives there it has a wrong guard or reference tag, and is no escape.
abbrev pub IsFoundFrom : Script → List DeviceInfo → (us : List Stored) → (leg : Bool) → (u k : ℕ) → (stored : List ℕ) → Type 0
IsFoundFrom s devices us leg u k stored = (j : ℕ) → k ≤ j → j < length s.ops → has_block (first_virt (op_at s.ops j)) (blocks_in (op_at s.ops j)) u ≡ true
    → is_some (found (mirror_setting s devices us) (named_on s devices leg u (op_at s.ops j) (j + 1)) stored AtTarget) ≡ true

-- If op k overwrites block u on a leg, made or failed, and that leg is fresh, what stands there behind it is the block as it was last written, or the target's check finds it bad.
abbrev pub IsShownOverwrite : Script → List DeviceInfo → (us : List Stored) → (leg : Bool) → (u k : ℕ) → Op → (now : Sides) → (after : RigState) → Brought → Type 0
IsShownOverwrite s devices us leg u k op now after e = (dev lba : ℕ) (change : Change) (left : List Stored) → op ≡ Overwrite dev lba change → HasAddress s devices leg u dev lba
    → on_leg leg (marks_of now.marks u).leg0 (marks_of now.marks u).leg1 ≡ true → after.units ≡ Some left
    → (stored_on s devices us left leg u ≡ frame_on s devices us leg u e) ⊎ IsFoundFrom s devices us leg u (k + 1) (stored_on s devices us left leg u)

-- ---- what is said of it

-- what it was last written with, behind an op that replied so: that of a write of it which isn't listed, from these pages
abbrev pub written_then : (size u : ℕ) → Op → (pool : List (List ℕ)) → Reply → Brought → Brought
written_then size u (Fill seg byte) pool reply e = e
written_then size u (Put page off bytes) pool reply e = e
written_then size u (Show seg) pool reply e = e
written_then size u (Seal n body tuples app rtag) pool reply e = e
written_then size u (Write v n body app) pool reply e =
    if has_block v n u && is_none (listed_in reply (u - v)) then record { body = take size (drop ((u - v) * size) (bytes_in pool body 0 (total body))); app = app } else e
written_then size u (Fetch v n body) pool reply e = e
written_then size u (WritePi v n body tuples) pool reply e = e
written_then size u (FetchPi v n body tuples) pool reply e = e
written_then size u (Overwrite dev lba change) pool reply e = e
written_then size u Wait pool reply e = e

-- Block k of a read isn't listed, and these data landed of it.
pub record LandsRight (size k : ℕ) (body : List Seg) (old new : Sides) (reply : Reply) (e : Brought) : Type 0 where
  pub unlisted : listed_in reply k ≡ None
  pub bytes : List ℕ
  pub pages : Wrote old.pool new.pool (range_of body 0 (total body)) bytes
  pub data_is : take size (drop (k * size) bytes) ≡ e.body

-- So it is of block u where the op is a read of it.
abbrev pub ReadsRight : (size u : ℕ) → Op → (old new : Sides) → Reply → Brought → Type 0
ReadsRight size u (Fill seg byte) old new reply e = Unit {0}
ReadsRight size u (Put page off bytes) old new reply e = Unit {0}
ReadsRight size u (Show seg) old new reply e = Unit {0}
ReadsRight size u (Seal n body tuples app rtag) old new reply e = Unit {0}
ReadsRight size u (Write v n body app) old new reply e = Unit {0}
ReadsRight size u (Fetch v n body) old new reply e = has_block v n u ≡ true → LandsRight size (u - v) body old new reply e
ReadsRight size u (WritePi v n body tuples) old new reply e = Unit {0}
ReadsRight size u (FetchPi v n body tuples) old new reply e = Unit {0}
ReadsRight size u (Overwrite dev lba change) old new reply e = Unit {0}
ReadsRight size u Wait old new reply e = Unit {0}

-- It is stored with these data and this application tag on this leg, under a proper tuple.
abbrev pub HoldsOn : Script → List DeviceInfo → (us left : List Stored) → (leg : Bool) → (u : ℕ) → Brought → Type 0
HoldsOn s devices us left leg u e = HoldsProper (mirror_setting s devices us) (place_on s devices leg u) e (blocks_told left)
