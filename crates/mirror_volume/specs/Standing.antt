use Rattle.std.specs.Prelude.{ℕ, ◌≡◌, ◌+◌, ◌/◌, ◌≤◌, Bool, true, List, [], ◌∷◌, ◌++◌, length, map, get_or, take, None, Some}
use Rattle.page_pool.specs.Cells.{flat}
use Rattle.rig_api.specs.Target.{Stored}
use Rattle.rig_api.specs.Telling.{Standing, specs_of}
use Rattle.rig_api.specs.State.{RigState}
use Rattle.rig_discovery.specs.Discovery.{info_of}
use Rattle.volume_table.specs.declared.device.DeviceInfo.{DeviceInfo}
use Rattle.volume_table.specs.Tables.{MadeFor}
use Rattle.volume_table.specs.Places.{volume_len}
use Rattle.dix_adapter.specs.Ways.{blocks_told, shapes_of}
use Rattle.block_path.specs.Serial.{plain}
use Rattle.stack_ops.specs.declared.reply.Reply.{Reply}
use Rattle.walk_laws.specs.Past.{steps_from}
use Rattle.walk_laws.specs.Settings.{Setting}
use Rattle.script_text.specs.declared.script.Script.{Script}
use Rattle.mirror_volume.specs.LegsPassed.{table_of, SizesAre, none_fails, opening_of, setting_of, AreStored, mirror_fault, Keeps}
use Rattle.mirror_laws.specs.Mirror.{Mirror, count_of, done, mirror_opened, replies_from}
use Rattle.mirror_laws.specs.Repair.{mirror_repair}
use Rattle.mirror_laws.specs.declared.marks.Marks.{Marks}
use Rattle.stack_ops.specs.declared.op.Op.{Op}
use Rattle.stack_ops.specs.declared.op.Op.TheVariants.{Wait}
use Rattle.mirror_volume.specs.LegRuns.{LegRun, NoneUnscheduled, all_unscheduled}
use Rattle.mirror_volume.specs.OnOps.{Sides}

-- How a mirror stands between two ops, over a rig that tells its blocks.

-- The script keeps the rules of its language, and is bound as a mirror's to the volume of these devices.
pub record IsBoundMirror (s : Script) (devices : List DeviceInfo) : Type 0 where
  pub keeps : Keeps s
  pub lines : length s.lines ≡ length s.faults + length s.ops
  pub few : length devices ≤ 8
  pub made : MadeFor (table_of s devices) devices s.block
  pub bound : mirror_fault s (table_of s devices) devices ≡ None

-- The script is bound as a mirror's to the devices that these units are, each of whose blocks has the size of a stored block.
pub record IsMirrorOver (s : Script) (devices : List DeviceInfo) (us : List Stored) : Type 0 where
  pub bound : IsBoundMirror s devices
  pub units : devices ≡ map info_of (shapes_of us)
  pub stored : AreStored us

abbrev pub half_of : Script → List DeviceInfo → ℕ
half_of s devices = volume_len (table_of s devices).entries / 2

-- A rig has these devices.
pub record HasLegDevices (devices : List DeviceInfo) (tells : Bool) (st : Standing) : Type 0 where
  pub count : length devices ≡ st.devices
  pub sizes : SizesAre devices st
  pub told : tells ≡ true → devices ≡ map info_of (specs_of st)

-- what the script runs with over these units
abbrev pub mirror_setting : Script → List DeviceInfo → List Stored → Setting
mirror_setting s devices us = setting_of s (table_of s devices) (shapes_of us) none_fails

-- the mirror after its first k ops, which began over these units
abbrev pub walked : Script → List DeviceInfo → (us : List Stored) → (k : ℕ) → Mirror
walked s devices us k =
    plain (done (mirror_setting s devices us) (half_of s devices) (count_of s.ops)) (steps_from (mirror_setting s devices us) 1 (take k s.ops))
    (mirror_opened (half_of s devices) (opening_of s (shapes_of us) (blocks_told us)))

-- After as many ops as there are replies, pages, marks, stored blocks and replies are those of the mirror's walk, which began over the units `us`.
pub record StandsAt (s : Script) (devices : List DeviceInfo) (us : List Stored) (sides : Sides) (replies : List Reply) (left : List Stored) : Type 0 where
  pub pages : flat sides.pool ≡ (walked s devices us (length replies)).state.bytes
  pub marks : sides.marks ≡ (walked s devices us (length replies)).marks
  pub shapes : shapes_of left ≡ shapes_of us
  pub blocks : blocks_told left ≡ (walked s devices us (length replies)).state.blocks
  pub replies_are : replies ≡ replies_from (mirror_setting s devices us) (half_of s devices) (count_of s.ops) 1 (take (length replies) s.ops) (mirror_opened (half_of s devices) (opening_of s (shapes_of us) (blocks_told us)))

-- op number i, from 0
abbrev pub op_at : List Op → ℕ → Op
op_at ops i = get_or ops i Wait

-- After the repair of a mirror that stands at its walk, marks, stored blocks and counts are those of the walk's repair.
pub record IsRepairedAs (s : Script) (devices : List DeviceInfo) (us : List Stored) (k : ℕ) (marks : List Marks) (repaired lost : ℕ) (left : List Stored) : Type 0 where
  pub shapes : shapes_of left ≡ shapes_of us
  pub marks_are : marks ≡ (mirror_repair (mirror_setting s devices us) (half_of s devices) (walked s devices us k)).marks
  pub blocks : blocks_told left ≡ (mirror_repair (mirror_setting s devices us) (half_of s devices) (walked s devices us k)).blocks
  pub repaired_is : repaired ≡ (mirror_repair (mirror_setting s devices us) (half_of s devices) (walked s devices us k)).repaired
  pub lost_is : lost ≡ (mirror_repair (mirror_setting s devices us) (half_of s devices) (walked s devices us k)).lost

-- ---- over a rig that tells its blocks

-- A mirror that stood at its walk still does after one more op, where no request of the op names the medium but as fault lines say, and its reply doesn't say that an overwrite failed.
abbrev pub KeepsToWalk : Script → List DeviceInfo → (old new : Sides) → (before after : RigState) → (replies : List Reply) → (reply : Reply) → List LegRun → Type 0
KeepsToWalk s devices old new before after replies reply runs = (us now : List Stored) → before.units ≡ Some now → NoneUnscheduled runs (reply ∷ []) → StandsAt s devices us old replies now
    → (left : List Stored) × ((after.units ≡ Some left) × StandsAt s devices us new (replies ++ (reply ∷ [])) left)

-- The repair of one that stood at its walk is the walk's, where no request of the repair names the medium but as fault lines say.
abbrev pub RepairsAsWalk : Script → List DeviceInfo → Sides → (before after : RigState) → List Reply → List Marks → (repaired lost : ℕ) → List LegRun → Type 0
RepairsAsWalk s devices sides before after replies marks repaired lost runs = (us now : List Stored) → before.units ≡ Some now → all_unscheduled runs ≡ 0 → StandsAt s devices us sides replies now
    → (left : List Stored) × ((after.units ≡ Some left) × IsRepairedAs s devices us (length replies) marks repaired lost left)
