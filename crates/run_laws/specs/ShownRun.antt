use Rattle.std.specs.Prelude.{ℕ, ◌≡◌, ◌*◌, ◌<◌, ◌≤◌, ◌^◌, true, List, [], ◌∷◌, ◌++◌, length, get_or, nat_abs, pos, ◌+ℤ◌, suc}
use Rattle.pi_tuple.specs.declared.checks.PiType.TheVariants.{One}
use Rattle.fault_schedule.specs.Altered.{shift_of}
use Rattle.fault_schedule.specs.declared.fault.Crossing.TheVariants.{AdapterToTarget, TargetToMedium}
use Rattle.page_pool.specs.Places.{total}
use Rattle.range_gate.specs.Cells.{cells_of}
use Rattle.walk_laws.specs.Passed.{Op, Fetch, FetchPi, Fill, Overwrite, Put, Seal, Show, Wait, Write, WritePi, stored_size, State, AreCells, medium_lba, stored_lba, target, wire_lba, place_in, volume_len, IsOn, DeviceInfo}
use Rattle.walk_laws.specs.CalmRun.{AreVolumeBlocks}
use Rattle.walk_laws.specs.Detectable.{accounted, detectable}
use Rattle.walk_laws.specs.FirstLayer.{is_misdirected}
use Rattle.walk_laws.specs.Past.{steps_from}
use Rattle.walk_laws.specs.Settings.{Block, Setting, block_of, route}
use Rattle.walk_laws.specs.UnderMap.{IsClean, NoEscape}
use Rattle.pi_tuple.specs.declared.TheConstants.{TUPLE}

-- What is asked of a run with faults, so that tuples show each of them.

-- The volume is of type 1, tuples are passed all the way, commands have protect field 001b, and a target with the run's faults is behind the adapter.
pub record IsChecked (m : Setting) : Type 0 where
  pub ty : m.ty ≡ One
  pub dix : m.mode.dix ≡ true
  pub dif : m.mode.dif ≡ true
  pub protect : m.mode.protect ≡ 1
  pub device : m.site.device ≡ target m.site.faults

-- A device of the volume's type and block size has a block at this address.
abbrev pub HasBlock : Setting → List DeviceInfo → (dev lba : ℕ) → Type 0
HasBlock m devices dev lba = IsOn devices m.ty m.size dev lba 1

-- The volume lies on these devices: each of its blocks at an address of one, no two at the same.
pub record LiesOn (m : Setting) (devices : List DeviceInfo) : Type 0 where
  pub inside : (v : ℕ) → v < volume_len m.entries → HasBlock m devices (place_in m.entries v).0 (place_in m.entries v).1
  pub alone : (v w : ℕ) → v < volume_len m.entries → w < volume_len m.entries → place_in m.entries v ≡ place_in m.entries w → v ≡ w

-- The image has for each block of these devices a cell of its own, with a frame of the size that its type has.
pub record HasCells (m : Setting) (devices : List DeviceInfo) (image : List (List ℕ)) : Type 0 where
  pub within : (dev lba : ℕ) → HasBlock m devices dev lba → m.site.cell dev lba < length image
  pub apart : (dev lba other at : ℕ) → HasBlock m devices dev lba → HasBlock m devices other at → m.site.cell dev lba ≡ m.site.cell other at → (dev ≡ other) × (lba ≡ at)
  pub size : (dev lba : ℕ) → HasBlock m devices dev lba → length (get_or image (m.site.cell dev lba) []) ≡ stored_size m.ty m.size

-- Each block of each device on which the volume lies is clean, its neighbours' too.
abbrev pub DevicesAreClean : Setting → List DeviceInfo → List (List ℕ) → Type 0
DevicesAreClean m devices image = (v lba : ℕ) → v < volume_len m.entries → HasBlock m devices (place_in m.entries v).0 lba →
    IsClean m lba (get_or image (m.site.cell (place_in m.entries v).0 lba) [])

-- Each stored block is clean to which a read of the volume may come: without a shift the volume's own, and under one the neighbour to which it leads.
abbrev pub AreCleanWhereRead : Setting → List DeviceInfo → List (List ℕ) → Type 0
AreCleanWhereRead m devices image = (b : Block) → b.virt < volume_len m.entries → HasBlock m devices (route m b).dev (medium_lba m.site.faults (route m b)) →
    IsClean m (medium_lba m.site.faults (route m b)) (get_or image (m.site.cell (route m b).dev (medium_lba m.site.faults (route m b))) [])

-- The op is shifted at the target by at most 64 addresses, and none of its blocks below 0.
pub record StaysNear (m : Setting) (b : Block) : Type 0 where
  pub near : nat_abs (shift_of m.site.faults AdapterToTarget b.op) ≤ 64
  pub above : pos (wire_lba m.site.faults (route m b)) ≡ pos (route m b).lba +ℤ shift_of m.site.faults AdapterToTarget b.op

-- So it is for each of n blocks from v on, in op i.
abbrev pub AllStayNear : Setting → (i v n : ℕ) → Type 0
AllStayNear m i v n = (k : ℕ) → k < n → StaysNear m (block_of i v k)

-- Where the disk misdirects a block of a write, its device has a block at most 64 addresses from the one that the target was told.
pub record LandsNear (m : Setting) (devices : List DeviceInfo) (b : Block) : Type 0 where
  pub near : nat_abs (shift_of m.site.faults TargetToMedium b.op) ≤ 64
  pub above : pos (stored_lba m.site.faults (route m b)) ≡ pos (wire_lba m.site.faults (route m b)) +ℤ shift_of m.site.faults TargetToMedium b.op
  pub there : HasBlock m devices (route m b).dev (stored_lba m.site.faults (route m b))

abbrev pub AllLandNear : Setting → List DeviceInfo → (i v n : ℕ) → Type 0
AllLandNear m devices i v n = (k : ℕ) → k < n → is_misdirected m (block_of i v k) ≡ true → LandsNear m devices (block_of i v k)

-- So it is for each write of the ops from op i on.
abbrev pub Lands : Setting → List DeviceInfo → (i : ℕ) → Op → Type 0
Lands m devices i (Fill seg byte) = Unit {0}
Lands m devices i (Put page off values) = Unit {0}
Lands m devices i (Show seg) = Unit {0}
Lands m devices i (Seal n body tuples app rtag) = Unit {0}
Lands m devices i (Write v n body app) = AllLandNear m devices i v n
Lands m devices i (Fetch v n body) = Unit {0}
Lands m devices i (WritePi v n body tuples) = AllLandNear m devices i v n
Lands m devices i (FetchPi v n body tuples) = Unit {0}
Lands m devices i (Overwrite dev lba change) = Unit {0}
Lands m devices i Wait = Unit {0}

abbrev pub AllLand : Setting → List DeviceInfo → (i : ℕ) → List Op → Type 0
AllLand m devices i [] = Unit {0}
AllLand m devices i (op ∷ ops) = Lands m devices i op × AllLand m devices (suc i) ops

-- Where a read looks for them, the device has a block.
abbrev pub AllAreFetched : Setting → List DeviceInfo → (i v n : ℕ) → Type 0
AllAreFetched m devices i v n = (k : ℕ) → k < n → HasBlock m devices (route m (block_of i v k)).dev (medium_lba m.site.faults (route m (block_of i v k)))

-- What a reader of scripts has seen to, and what binding op i to the volume and the devices has, where the pages have so many bytes.
abbrev pub Binds : Setting → List DeviceInfo → (bytes i : ℕ) → Op → Type 0
Binds m devices bytes i (Fill seg byte) = Unit {0}
Binds m devices bytes i (Put page off values) = Unit {0}
Binds m devices bytes i (Show seg) = Unit {0}
Binds m devices bytes i (Seal n body tuples app rtag) = Unit {0}
Binds m devices bytes i (Write v n body app) = AreVolumeBlocks m v n (total body) × ((app < 2 ^ 16) × AllStayNear m i v n)
Binds m devices bytes i (Fetch v n body) = AreVolumeBlocks m v n (total body) × (AreCells bytes (cells_of body) × (AllStayNear m i v n × AllAreFetched m devices i v n))
Binds m devices bytes i (WritePi v n body tuples) = AreVolumeBlocks m v n (total body) × ((total tuples ≡ n * TUPLE) × AllStayNear m i v n)
Binds m devices bytes i (FetchPi v n body tuples) =
    AreVolumeBlocks m v n (total body) × ((total tuples ≡ n * TUPLE) × (AreCells bytes (cells_of body ++ cells_of tuples) × (AllStayNear m i v n × AllAreFetched m devices i v n)))
Binds m devices bytes i (Overwrite dev lba change) = HasBlock m devices dev lba
Binds m devices bytes i Wait = Unit {0}

abbrev pub AllBind : Setting → List DeviceInfo → (bytes i : ℕ) → List Op → Type 0
AllBind m devices bytes i [] = Unit {0}
AllBind m devices bytes i (op ∷ ops) = Binds m devices bytes i op × AllBind m devices bytes (suc i) ops

-- A run over blocks that are clean where it may read, with no escape, each of whose faults can be shown.
pub record IsShownRun (m : Setting) (devices : List DeviceInfo) (ops : List Op) (opening : State) : Type 0 where
  pub checked : IsChecked m
  pub lies : LiesOn m devices
  pub cells : HasCells m devices opening.blocks
  pub clean : AreCleanWhereRead m devices opening.blocks
  pub bind : AllBind m devices (length opening.bytes) 1 ops
  pub no_escape : NoEscape m 1 ops opening
  pub shown : detectable m (steps_from m 1 ops) opening ≡ true

-- A run over such blocks, each of whose faults can be shown, or is of a block that the medium fails, loses or misdirects.
pub record IsAccountedRun (m : Setting) (devices : List DeviceInfo) (ops : List Op) (opening : State) : Type 0 where
  pub checked : IsChecked m
  pub lies : LiesOn m devices
  pub cells : HasCells m devices opening.blocks
  pub clean : AreCleanWhereRead m devices opening.blocks
  pub bind : AllBind m devices (length opening.bytes) 1 ops
  pub land : AllLand m devices 1 ops
  pub no_escape : NoEscape m 1 ops opening
  pub accounted : accounted m (steps_from m 1 ops) opening ≡ true
