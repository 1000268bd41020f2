-- What a script's run comes to, by its records and, where a rig tells its blocks, by these.
use Rattle.std.specs.Prelude.{◌≡◌, ℕ, zero, suc, ◌*◌, ◌<◌, ◌≤◌, Bool, false, List, [], ◌++◌, length, get_or, is_some, map, replicate, take, None, Some}
use Rattle.page_pool.specs.Cells.{flat}
use Rattle.rig_api.specs.Target.{Stored}
use Rattle.rig_api.specs.declared.units.UnitSpec.{UnitSpec}
use Rattle.rig_api.specs.Log.{LogEntry}
use Rattle.rig_api.specs.Telling.{Standing, spec_at, specs_of}
use Rattle.rig_api.specs.State.{RigState}
use Rattle.script_text.specs.Passed.{Reply, Silent}
use Rattle.volume_table.specs.declared.device.DeviceInfo.{DeviceInfo}
use Rattle.volume_table.specs.Faults.{device}
use Rattle.volume_table.specs.Tables.{Table}
use Rattle.dix_adapter.specs.Groups.{mode_of}
use Rattle.dix_adapter.specs.Ways.{blocks_told, cell_in, shapes_of}
use Rattle.dix_adapter.specs.Passed.{State, target}
use Rattle.script_text.specs.declared.script.Script.{Script}
use Rattle.script_run_laws.specs.Passed.{Backed, Carried, recorded, fates, info_of}
use Rattle.script_run_laws.specs.Units.{all_blocks}
use Rattle.dix_base.specs.Told.{Calm}
use Rattle.fault_schedule.specs.declared.fault.FaultLine.{FaultLine}
use Rattle.stack_core.specs.Mediums.{RoseBy, unscheduled_mediums}
use Rattle.stack_core.specs.Passed.{pages_from, requests_from, script_replies, script_walk, Setting}
use Rattle.stack_core.specs.declared.stack.Stack.{Stack}
use Rattle.stack_core.specs.Stacks.{IsFinished, IsStack}
use Rattle.stack_core.specs.Walking.{EndsFallen, Walks, WalksFalling, WalksTold, is_medium}
use Rattle.script_stack.specs.Sends.{SendsFor, by_words}
use Rattle.page_pool.specs.declared.TheConstants.{PAGE}

-- which overwrites failed, by the replies; ops are numbered from 1
abbrev pub failed_in : List Reply → ℕ → Bool
failed_in replies zero = false
failed_in replies (suc i) = is_medium (get_or replies i Silent)

abbrev pub none_fails : ℕ → Bool
none_fails i = false

-- a device as a unit
abbrev pub unit_of : DeviceInfo → UnitSpec
unit_of d = record { ty = d.ty; blocks = d.blocks; size = d.size; first = d.first }

-- What a script runs with over a volume of these units, behind each of which is a target with its faults armed; their blocks have cells in turn.
abbrev pub setting_of : Script → Table → List UnitSpec → (fails : ℕ → Bool) → Setting
setting_of s t units fails = record {
  mode = s.mode;
  ty = t.ty;
  size = s.block;
  entries = t.entries;
  site = record { faults = s.faults; device = target s.faults; cell = cell_in units };
  fails = fails;
}

-- The cells with which it begins: pages of zeros, these stored blocks, and no frame carried yet.
abbrev pub opening_of : Script → List UnitSpec → (blocks : List (List ℕ)) → State
opening_of s units blocks = record { bytes = replicate (PAGE * s.pages) 0; blocks = blocks; logs = replicate (all_blocks units) []; fates = [] }

-- The same with the private pages of the block layer's tuples, and a cell for what is found of each block.
abbrev pub begun_of : Script → List UnitSpec → (blocks : List (List ℕ)) → State
begun_of s units blocks = record { bytes = replicate (PAGE * pages_from s.mode.dix s.pages s.ops) 0; blocks = blocks; logs = replicate (all_blocks units) []; fates = replicate (fates s.ops) None }

-- The log backs the replies, whatever lay in the stored blocks.
abbrev pub IsBackedBy : Script → Table → List DeviceInfo → List LogEntry → List Reply → Type 0
IsBackedBy s t devices log replies = (blocks : List (List ℕ)) → Backed (setting_of s t (map unit_of devices) (failed_in replies)) s.ops (opening_of s (map unit_of devices) blocks) log replies

-- Replies, pages and stored blocks are those of the script's ops done one after another at the target, and the log holds what they carry.
pub record HasWalked (s : Script) (t : Table) (us us' : List Stored) (pool : List (List ℕ)) (log : List LogEntry) (replies : List Reply) : Type 0 where
  pub replies_are : replies ≡ script_replies (setting_of s t (shapes_of us) none_fails) s.ops (opening_of s (shapes_of us) (blocks_told us))
  pub pages : take (PAGE * s.pages) (flat pool) ≡ (script_walk (setting_of s t (shapes_of us) none_fails) s.ops (opening_of s (shapes_of us) (blocks_told us))).bytes
  pub shapes : shapes_of us' ≡ shapes_of us
  pub blocks : blocks_told us' ≡ (script_walk (setting_of s t (shapes_of us) none_fails) s.ops (opening_of s (shapes_of us) (blocks_told us))).blocks
  pub carried : Carried (setting_of s t (shapes_of us) none_fails) s.ops (opening_of s (shapes_of us) (blocks_told us)) log

-- So they are where store calls failed: they are those of the walk in which just these calls fail and leave what they may, and in which an overwrite that replied `Medium` flips its block somehow; and the log holds what that walk carries.
pub record HasFallen (s : Script) (t : Table) (us us' : List Stored) (pool : List (List ℕ)) (log : List LogEntry) (replies : List Reply) : Type 0 where
  pub shapes : shapes_of us' ≡ shapes_of us
  pub fallen : EndsFallen (setting_of s t (shapes_of us) (failed_in replies)) (PAGE * s.pages) (opening_of s (shapes_of us) (blocks_told us)) s.ops (take (PAGE * s.pages) (flat pool)) (blocks_told us') replies
      (recorded (setting_of s t (shapes_of us) (failed_in replies)) log)

-- ---- before the first step

-- the devices have blocks of the sizes that the rig's head tells
abbrev pub SizesAre : List DeviceInfo → Standing → Type 0
SizesAre devices st = (d : ℕ) → d < length devices → (spec_at st d).size ≡ (device devices d).size

-- A new stack of a script follows its walk from a rig's next record on: over any rig,
abbrev pub BeginsWalks : Script → Table → List DeviceInfo → Stack → Type 0
BeginsWalks s t devices r = (fails : ℕ → Bool) (blocks : List (List ℕ)) (st : Standing) (log : List LogEntry) → SizesAre devices st
    → Walks (setting_of s t (map unit_of devices) fails) (PAGE * s.pages) (begun_of s (map unit_of devices) blocks) (length log) r st log

-- and over a rig with these devices that tells its blocks, with the script's faults armed, where store calls may fail.
abbrev pub BeginsFalling : Script → Table → List DeviceInfo → Stack → Type 0
BeginsFalling s t devices r = (fails : ℕ → Bool) (us : List Stored) (st : Standing) (log : List LogEntry) → devices ≡ map info_of (specs_of st) → shapes_of us ≡ specs_of st
    → WalksFalling (setting_of s t (shapes_of us) fails) (PAGE * s.pages) (begun_of s (shapes_of us) (blocks_told us)) (length log) r (Some us) s.faults st log

-- So it does while none failed.
abbrev pub BeginsTold : Script → Table → List DeviceInfo → Stack → Type 0
BeginsTold s t devices r = (fails : ℕ → Bool) (us : List Stored) (st : Standing) (log : List LogEntry) → devices ≡ map info_of (specs_of st) → shapes_of us ≡ specs_of st
    → WalksTold (setting_of s t (shapes_of us) fails) (PAGE * s.pages) (begun_of s (shapes_of us) (blocks_told us)) (length log) r (Some us) s.faults st log

-- ---- at the end

-- A rig tells its blocks: these before a run, and those after it.
pub record KnownBlocks (old new : RigState) : Type 0 where
  pub before : List Stored
  pub after : List Stored
  pub began : old.units ≡ Some before
  pub ended : new.units ≡ Some after

-- No line of the report names the medium but as these fault lines say: no other block is listed with it, and no overwrite replied that it failed.
abbrev pub NoMediumLine : List FaultLine → List Reply → Type 0
NoMediumLine faults replies = unscheduled_mediums faults replies ≡ 0

-- A script was run by these words over a rig, to a volume of whose devices it was bound.
pub record Ran (s : Script) (t : Table) (devices : List DeviceInfo) (words : List (ℕ × ℕ)) (old new : RigState) (r : Stack) : Type 0 where
  -- All ops of its stack have ended, and what no step changes is the script's.
  pub stack : IsStack r
  pub ops : r.sheet.ops ≡ s.ops
  pub ios : r.sheet.ios.items ≡ requests_from s.mode.dix s.pages s.ops
  pub mode : mode_of r.adapter ≡ s.mode
  pub armed : r.adapter.tamper ≡ s.faults
  pub ended : IsFinished r
  -- The rig stands as it did, its count of faults didn't fall, and its log has grown by these records.
  pub standing : new.standing ≡ old.standing
  pub faults : old.faults ≤ new.faults
  pub more : List LogEntry
  pub records : new.log ≡ old.log ++ more
  -- The faults that the rig has armed are the script's.
  pub armed_there : new.armed ≡ s.faults
  -- The rig tells its blocks afterwards exactly where it did before.
  pub tells_blocks : is_some new.units ≡ is_some old.units
  -- The records back the replies.
  pub backed : IsBackedBy s t devices more r.replies.items
  -- They are those that its steps send by these words.
  pub sends : SendsFor (by_words s words) t more r.replies.items
  -- Those of the report that name the medium, but for the blocks that `fail` lines name, are at most as many as the count of faults rose.
  pub medium : RoseBy (unscheduled_mediums s.faults r.replies.items) old.faults new.faults
  -- Over known blocks, where no line names the medium but as `fail` lines say, the script's ops were done one after another at the target.
  pub walked : (known : KnownBlocks old new) → NoMediumLine s.faults r.replies.items → HasWalked s t known.before known.after r.pool more r.replies.items
  -- So they were where the count didn't rise.
  pub calm : (known : KnownBlocks old new) → Calm old.faults new.faults → HasWalked s t known.before known.after r.pool more r.replies.items
  -- Over known blocks, whatever lines name it, so they were but for what the store calls that failed left.
  pub fell : (known : KnownBlocks old new) → HasFallen s t known.before known.after r.pool more r.replies.items
