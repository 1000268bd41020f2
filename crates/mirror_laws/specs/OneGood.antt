use Rattle.std.specs.Prelude.{ℕ, ◌≡◌, ◌+◌, ◌*◌, ◌<◌, ◌≤◌, ◌^◌, Bool, true, false, not, ◌&&◌, List, [], ◌∷◌, ◌++◌, length, get_or, pos}
use Rattle.std.specs.List.{All}
use Rattle.pi_guard.specs.Guards.{crc}
use Rattle.pi_tuple.specs.Tuples.{ref_tag}
use Rattle.fault_schedule.specs.Altered.{keep_of, shift_of}
use Rattle.fault_schedule.specs.declared.fault.Crossing.{Crossing}
use Rattle.page_pool.specs.declared.segs.Seg.{Seg}
use Rattle.page_pool.specs.Cells.{gather}
use Rattle.page_pool.specs.Places.{total}
use Rattle.range_gate.specs.Cells.{cells_of}
use Rattle.stack_ops.specs.declared.op.Op.{Op}
use Rattle.stack_ops.specs.declared.op.Op.TheVariants.{Fetch, FetchPi, Fill, Overwrite, Put, Seal, Show, Wait, Write, WritePi}
use Rattle.stack_ops.specs.declared.reply.Reply.TheVariants.{Silent, Whole}
use Rattle.volume_table.specs.Places.{place_in, volume_len}
use Rattle.volume_table.specs.declared.device.DeviceInfo.{DeviceInfo}
use Rattle.rig_api.specs.Frames.{data_of, tuple_of}
use Rattle.block_path.specs.Acts.{State}
use Rattle.block_path.specs.Moves.{AreCells}
use Rattle.block_path.specs.Serial.{plain}
use Rattle.walk_laws.specs.Detectable.{accounted}
use Rattle.walk_laws.specs.FirstLayer.{has_flip, is_all, is_served, last_accepted, loses}
use Rattle.walk_laws.specs.Past.{Brought, brought_by, steps_from}
use Rattle.walk_laws.specs.Settings.{Block, Setting, route}
use Rattle.walk_laws.specs.Steps.{Alters, Reads, Seals, Sets, Shows, Step, Writes, WritesPi, body_of}
use Rattle.walk_laws.specs.UnderMap.{AreClean, NoneEscapes, address_of, home}
use Rattle.run_laws.specs.ShownRun.{HasBlock, HasCells, IsChecked, LiesOn}
use Rattle.mirror_laws.specs.Mirror.{all_asked, count_of, done, fresh, marks_of, mirror_opened, mirror_past, mirror_replies, mirror_walk, twin}
use Rattle.mirror_laws.specs.Repair.{mirror_repair}
use Rattle.pi_tuple.specs.declared.TheConstants.{TUPLE}

-- One good leg: for each block of a mirror there is a leg on which no fault line alters it on its way, and no overwrite in its place, and whose medium does what is asked of it.

-- one thing for leg 0, another for leg 1
abbrev pub on_leg : {X : Type 0} → (leg : Bool) → X → X → X
on_leg false on0 on1 = on0
on_leg true on0 on1 = on1

-- No fault line alters this block of a request, at any crossing.
abbrev pub IsUnnamed : Setting → Block → Type 0
IsUnnamed m b = (at : Crossing) → has_flip m b at ≡ false

module _ (m : Setting) (half : ℕ) (count : ℕ → ℕ) (leg : Bool) (u : ℕ) where
  -- a step leaves block u alone on this leg
  abbrev pub Spares : Step → Type 0
  Spares (Sets at values) = Unit {0}
  Spares (Shows at) = Unit {0}
  Spares (Seals body tuple app rtag) = Unit {0}
  Spares (Writes b app body) = b.virt ≡ u → IsUnnamed m (on_leg leg b (twin m half count b))
  Spares (WritesPi b frame) = Unit {0}
  Spares (Reads b owner to) = b.virt ≡ u → IsUnnamed m (on_leg leg b (twin m half count b))
  Spares (Alters dev lba change) = dev ≡ (place_in m.entries (on_leg leg u (half + u))).0 → lba ≡ (place_in m.entries (on_leg leg u (half + u))).1 → ⊥

  abbrev pub AllSpare : List Step → Type 0
  AllSpare [] = Unit {0}
  AllSpare (step ∷ steps) = Spares step × AllSpare steps

-- all that a script asks of the legs
abbrev pub script_asks : Setting → (half : ℕ) → List Op → State → List Step
script_asks m half ops opening = all_asked m half (count_of ops) (steps_from m 1 ops) (mirror_opened half opening)

-- The medium stores this block of a write, all of it, wherever it does.
abbrev pub stores_all : Setting → Block → Bool
stores_all m b = is_served m b && is_all (keep_of m.site.faults (route m b).label)

module _ (m : Setting) (virt : ℕ) where
  -- The medium does what a step that is asked of the legs wants of this virtual block: it stores all of it, or sends it.
  abbrev pub Serves : Step → Type 0
  Serves (Sets at values) = Unit {0}
  Serves (Shows at) = Unit {0}
  Serves (Seals body tuple app rtag) = Unit {0}
  Serves (Writes b app body) = b.virt ≡ virt → stores_all m b ≡ true
  Serves (WritesPi b frame) = b.virt ≡ virt → stores_all m b ≡ true
  Serves (Reads b owner to) = b.virt ≡ virt → is_served m b ≡ true
  Serves (Alters dev lba change) = Unit {0}

  abbrev pub AllServe : List Step → Type 0
  AllServe [] = Unit {0}
  AllServe (step ∷ steps) = Serves step × AllServe steps

pub record HasGoodLeg (m : Setting) (half : ℕ) (ops : List Op) (opening : State) (u : ℕ) : Type 0 where
  pub leg : Bool
  pub spares : AllSpare m half (count_of ops) leg u (steps_from m 1 ops)
  pub serves : AllServe m (on_leg leg u (half + u)) (script_asks m half ops opening)

abbrev pub OneGood : Setting → (half : ℕ) → List Op → State → Type 0
OneGood m half ops opening = (u : ℕ) → u < half → HasGoodLeg m half ops opening u

-- A leg that lies is believed: it says that it has stored a block, so it is fresh and is read. So no block of a write may be lost on either leg.
abbrev pub step_loses : Setting → Step → Bool
step_loses m (Sets at values) = false
step_loses m (Shows at) = false
step_loses m (Seals body tuple app rtag) = false
step_loses m (Writes b app body) = loses m b
step_loses m (WritesPi b frame) = loses m b
step_loses m (Reads b owner to) = false
step_loses m (Alters dev lba change) = false

abbrev pub loses_none : Setting → List Step → Bool
loses_none m [] = true
loses_none m (step ∷ steps) = not (step_loses m step) && loses_none m steps

-- What binding a mirror's script has seen to: requests lie on the mirror, with their data, and have no tuples of the application's.
abbrev pub Binds : Setting → List DeviceInfo → (half bytes : ℕ) → Op → Type 0
Binds m devices half bytes (Fill seg byte) = Unit {0}
Binds m devices half bytes (Put page off values) = Unit {0}
Binds m devices half bytes (Show seg) = Unit {0}
Binds m devices half bytes (Seal n body tuples app rtag) = ⊥
Binds m devices half bytes (Write v n body app) = (v + n ≤ half) × ((total body ≡ n * m.size) × (app < 2 ^ 16))
Binds m devices half bytes (Fetch v n body) = (v + n ≤ half) × ((total body ≡ n * m.size) × AreCells bytes (cells_of body))
Binds m devices half bytes (WritePi v n body tuples) = ⊥
Binds m devices half bytes (FetchPi v n body tuples) = ⊥
Binds m devices half bytes (Overwrite dev lba change) = HasBlock m devices dev lba
Binds m devices half bytes Wait = Unit {0}

abbrev pub AllBind : Setting → List DeviceInfo → (half bytes : ℕ) → List Op → Type 0
AllBind m devices half bytes [] = Unit {0}
AllBind m devices half bytes (op ∷ ops) = Binds m devices half bytes op × AllBind m devices half bytes ops

-- The premises: type 1 with tuples passed, no shift; both legs clean and with the same data and application tags; no escape is written; each alteration can be shown, a block of which the medium stores a part is found, none is lost, and each has one good leg.
-- On the other leg the medium may fail a block: that is known, so it is taken from the good one.
pub record IsMirrorRun (m : Setting) (devices : List DeviceInfo) (half : ℕ) (ops : List Op) (opening : State) : Type 0 where
  pub checked : IsChecked m
  pub unshifted : (at : Crossing) (op : ℕ) → shift_of m.site.faults at op ≡ pos 0
  pub long : volume_len m.entries ≡ half + half
  pub lies : LiesOn m devices
  pub cells : HasCells m devices opening.blocks
  pub clean : AreClean m opening.blocks
  pub equal : (u : ℕ) → u < half → brought_by m.size (get_or opening.blocks (home m (half + u)) []) ≡ brought_by m.size (get_or opening.blocks (home m u) [])
  pub bind : AllBind m devices half (length opening.bytes) ops
  pub no_escape : NoneEscapes m (script_asks m half ops opening) opening
  pub accounted : accounted m (script_asks m half ops opening) opening ≡ true
  pub kept : loses_none m (script_asks m half ops opening) ≡ true
  pub one_good : OneGood m half ops opening

-- the last accepted write of block u of the mirror, after these steps of its script; before any, what leg 0 has
abbrev pub last_of : Setting → (half : ℕ) → (count : ℕ → ℕ) → List Step → State → (u : ℕ) → Brought
last_of m half count steps opening u = last_accepted m opening (record { op = 0; k = 0; virt = u }) (mirror_past m half count steps (mirror_opened half opening) [])

-- A virtual block is stored with these data and this application tag, under their tuple: the CRC, and the tag of the address.
pub record HoldsProper (m : Setting) (virt : ℕ) (e : Brought) (blocks : List (List ℕ)) : Type 0 where
  pub size : length (get_or blocks (home m virt) []) ≡ m.size + TUPLE
  pub body : data_of m.size (get_or blocks (home m virt) []) ≡ e.body
  pub tuple : tuple_of m.size (get_or blocks (home m virt) []) ≡ record { guard = crc e.body; app = e.app; rtag = ref_tag (address_of m virt) }

-- The op that follows `before`, a read, is whole, and each of its blocks has the data that were last accepted when the op begins.
pub record ReadsLast (m : Setting) (half : ℕ) (ops before : List Op) (v n : ℕ) (body : List Seg) (opening : State) : Type 0 where
  pub reply : get_or (mirror_replies m half ops opening) (length before) Silent ≡ Whole
  pub data_is : (k : ℕ) → k < n →
      gather 0 (body_of m.size body k) (plain (done m half (count_of ops)) (steps_from m 1 (before ++ (Fetch v n body ∷ []))) (mirror_opened half opening)).state.bytes
      ≡ (last_of m half (count_of ops) (steps_from m 1 before) opening (v + k)).body

-- After the repair both legs hold what was last accepted of each block, both are fresh, and no block is lost.
pub record IsRepaired (m : Setting) (half : ℕ) (ops : List Op) (opening : State) : Type 0 where
  pub holds : (u : ℕ) → u < half → (leg : Bool) →
      HoldsProper m (on_leg leg u (half + u)) (last_of m half (count_of ops) (steps_from m 1 ops) opening u) (mirror_repair m half (mirror_walk m half ops opening)).blocks
  pub marks : (u : ℕ) → u < half → marks_of (mirror_repair m half (mirror_walk m half ops opening)).marks u ≡ fresh
  pub lost : (mirror_repair m half (mirror_walk m half ops opening)).lost ≡ 0

-- what a repair needs besides: the stored blocks of leg 0 are made of bytes
abbrev pub AreBytes : Setting → (half : ℕ) → List (List ℕ) → Type 0
AreBytes m half blocks = (u : ℕ) → u < half → All (λ x. x < 256) (get_or blocks (home m u) [])
