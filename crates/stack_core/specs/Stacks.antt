-- A stack whose steps can be done, and the rigs over which they can.
use Rattle.std.specs.Prelude.{◌≡◌, ℕ, ◌<◌, ◌≤◌, Bool, List, [], ◌++◌, length, get_or}
use Rattle.std.specs.Vec.{vec_capacity}
use Rattle.std.specs.declared.alloc.Global.{Global}
use Rattle.std.specs.declared.vec.Vec.{Vec}
use Rattle.dix_adapter.specs.declared.scratch.Scratch.{Scratch}
use Rattle.bio_core.specs.declared.bio.Bio.{Bio}
use Rattle.bio_core.specs.declared.fate.Fate.{Fate}
use Rattle.bio_core.specs.declared.request.Io.{Io}
use Rattle.bio_core.specs.Bios.{block_size}
use Rattle.dix_adapter.specs.declared.adapter.Adapter.{Adapter}
use Rattle.dix_adapter.specs.Groups.{IsProtect}
use Rattle.dix_adapter.specs.Room.{HoldsBlocks}
use Rattle.dix_adapter.specs.Walking.{HasHost}
use Rattle.rig_api.specs.Log.{LogEntry, HasRoom, Room as Spare}
use Rattle.rig_api.specs.State.{RigState}
use Rattle.rig_api.specs.Telling.{Standing, greatest_size}
use Rattle.stack_ops.specs.declared.op.Op.{Op}
use Rattle.stack_laws.specs.Plan.{Plan}
use Rattle.stack_laws.specs.Room.{exchanges_left, frames_left}
use Rattle.stack_laws.specs.Runs.{blocks_of_requests}
use Rattle.stack_laws.specs.Sound.{Answered}
use Rattle.stack_laws.specs.Steps.{chosen, enabled, step}
use Rattle.stack_laws.specs.View.{View}
use Rattle.stack_steps.specs.declared.machine.Machine.{Machine}
use Rattle.stack_steps.specs.Does.{Holds, Works}
use Rattle.stack_core.specs.declared.kept.Room.{Room}
use Rattle.stack_core.specs.declared.kept.Room.TheVariants.{Nothing}
use Rattle.stack_core.specs.declared.sheet.Sheet.{Sheet}
use Rattle.stack_core.specs.declared.stack.Stack.{Stack}
use Rattle.stack_walk_laws.specs.Sheets.{io_at, op_in, plan_of}
use Rattle.stack_walk_laws.specs.Settling.{AreAllWhole, AreFates}
use Rattle.stack_core.specs.Replies.{HoldsBad}
use Rattle.stack_core.specs.Doing.{CanDo, CanReach}
use Rattle.pi_tuple.specs.declared.TheConstants.{LARGEST_BLOCK}
use Rattle.dix_adapter.specs.declared.TheConstants.{MOST_OF_COMMAND}

abbrev pub plan_in : Sheet → Plan
plan_in s = plan_of s.ops s.shifted.items s.ios.items s.table s.limits s.devices

abbrev pub room_at : List Room → ℕ → Room
room_at rooms i = get_or rooms i Nothing

-- all blocks have one size, and tuples travel from the host as the adapter knows it
pub record AreUniform (dix : Bool) (bytes : ℕ) (ios : List Io) : Type 0 where
  pub some : 1 ≤ bytes
  pub few : bytes ≤ LARGEST_BLOCK
  pub size : (i : ℕ) → 0 < (io_at ios i).count → block_size (io_at ios i) ≡ bytes
  pub host : (i : ℕ) → 0 < (io_at ios i).count → HasHost dix (io_at ios i).pi

-- there is room for the reply of each op, and what it needs
pub record AreRooms (pool : List (List ℕ)) (ops : List Op) (ios : List Io) (rooms : List Room) : Type 0 where
  pub count : length rooms ≡ length ios
  pub bad : (i : ℕ) → i < length ios → HoldsBad (io_at ios i).count (room_at rooms i)
  pub can : (i : ℕ) → i < length ios → CanDo pool (room_at rooms i) (op_in ops i)

-- what no step changes
pub record IsFixed (sheet : Sheet) (adapter : Adapter) : Type 0 where
  pub ops : length sheet.ops ≡ length sheet.ios.items
  pub protect : IsProtect adapter.protect
  pub few : sheet.limits.max_blocks ≤ MOST_OF_COMMAND
  pub bytes : ℕ
  pub uniform : AreUniform adapter.dix bytes sheet.ios.items

-- room for as many blocks of each request as a command may hold
abbrev pub HoldsEach : List Io → ℕ → Scratch → Type 0
HoldsEach ios most s = (i : ℕ) → 0 < (io_at ios i).count → HoldsBlocks (block_size (io_at ios i)) most s

-- room for the lists of one command
pub record HasLists (ios : List Io) (blocks most : ℕ) (group : Vec Bio Global) (fates : Vec Fate Global) (scratch : Scratch) : Type 0 where
  pub group_room : blocks ≤ vec_capacity group
  pub fates_room : blocks ≤ vec_capacity fates
  pub scratch_room : HoldsEach ios most scratch

pub record IsStack (s : Stack) : Type 0 where
  pub works : Works (plan_in s.sheet) s.machine
  pub fixed : IsFixed s.sheet s.adapter
  pub whole : AreAllWhole s.pool s.sheet.ios.items
  pub rooms : AreRooms s.pool s.sheet.ops s.sheet.ios.items s.rooms.items
  pub kept : AreFates s.sheet.ios.items s.kept.starts.items s.kept.held.items
  pub replies : length s.replies.items ≡ length s.sheet.ios.items
  pub lists : HasLists s.sheet.ios.items (blocks_of_requests (plan_in s.sheet).requests) s.sheet.limits.max_blocks s.group s.fates s.scratch

-- the rig has the devices and the blocks that the ops name
pub record Reaches (s : Stack) (told : Bool) (st : Standing) : Type 0 where
  pub devices : s.sheet.devices ≤ st.devices
  pub blocks : (i : ℕ) → i < length s.sheet.ops → CanReach told st (op_in s.sheet.ops i)

-- It has room for what may still be sent: an exchange for each block that isn't settled, less the commands in flight, and the frames of the blocks that may still be carried.
pub record HasSpare (s : Stack) (st : Standing) (room : Spare) : Type 0 where
  pub view : View
  pub holds : Holds (plan_in s.sheet) s.machine view
  pub spare : HasRoom (greatest_size st) (exchanges_left view) (frames_left (plan_in s.sheet) view) room

-- a step is enabled, whichever view the machine shows
abbrev pub HasStep : Plan → Machine → Type 0
HasStep p m = (v : View) → Holds p m v → 0 < length (enabled p v)

-- all ops have ended: no step is enabled
abbrev pub IsFinished : Stack → Type 0
IsFinished s = (v : View) → Holds (plan_in s.sheet) s.machine v → enabled (plan_in s.sheet) v ≡ []

-- the step of the word is done, with some fates where it sends, whichever view the machine showed
abbrev pub Steps : Plan → Machine → ℕ → ℕ → Machine → Type 0
Steps p m word cut m' = (v : View) → Holds p m v → 0 < length (enabled p v)
    → (fates : List Fate) × Answered v (chosen p v word) fates × Holds p m' (step p v (chosen p v word) cut fates)

-- what no step changes is as it was
pub record StackStays (old new : Stack) : Type 0 where
  pub sheet : new.sheet ≡ old.sheet
  pub adapter : new.adapter ≡ old.adapter
  pub host : new.host ≡ old.host

-- The rig goes on as it stands: its records are followed by others or by none, and its count of faults doesn't fall.
pub record GoesOn (old new : RigState) : Type 0 where
  pub standing : new.standing ≡ old.standing
  pub more : List LogEntry
  pub records : new.log ≡ old.log ++ more
  pub faults : old.faults ≤ new.faults
