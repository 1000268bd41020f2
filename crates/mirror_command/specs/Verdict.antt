use Rattle.std.specs.Prelude.{All, ℕ, ◌≡◌, ◌*◌, ◌⊎◌, length, replicate, List, [], ◌++◌, is_some, Some, None, Ok}
use Rattle.dix_base.specs.Told.{Calm}
use Rattle.page_pool.specs.Cells.{flat}
use Rattle.rig_api.specs.Head.{head_fault, head_of}
use Rattle.rig_api.specs.State.{RigState}
use Rattle.call_refusal.specs.Causes.{CauseUntold}
use Rattle.rig_api.specs.Target.{Stored}
use Rattle.volume_table.specs.Faults.{table_fault}
use Rattle.volume_table.specs.Tables.{Table}
use Rattle.volume_table.specs.declared.device.DeviceInfo.{DeviceInfo}
use Rattle.script_text.specs.Language.{script_in}
use Rattle.script_text.specs.declared.fault.ScriptFault.{ScriptFault}
use Rattle.script_text.specs.declared.script.Script.{Script}
use Rattle.run_command.specs.Passed.{KnownBlocks}
use Rattle.run_command.specs.Layers.{NamesFaults}
use Rattle.run_command.specs.Verdict.{CauseUntaken, Facts, HasBadVolume, HasRead, HasTable, HoldsBlocks, IsFromOutside, StoppedShort, WasAsked, devices_of, table_over}
use Rattle.call_refusal.specs.declared.refusal.Refusal.{Refusal}
use Rattle.call_refusal.specs.declared.refusal.Refusal.TheVariants as refusal
use Rattle.mirror_script.specs.MirrorFaults.{mirror_fault}
use Rattle.mirror_laws.specs.Mirror.{fresh}
use Rattle.mirror_volume.specs.Plans.{IsMirror}
use Rattle.mirror_volume.specs.Passed.{NoneUnscheduled, IsBoundMirror, half_of}
use Rattle.mirror_volume.specs.declared.mirror.Mirror.{Mirror}
use Rattle.mirror_volume.specs.Enough.{WasEnough}
use Rattle.mirror_volume.specs.Premises.{IsFormedMirror, IsOneGoodRun, IsStillMirror}
use Rattle.mirror_command.specs.Spared.{KeepsSpared}
use Rattle.mirror_command.specs.Stages.{Broke, Finished, stage_of}
use Rattle.mirror_command.specs.declared.mirrored.Mirrored.{Mirrored}
use Rattle.page_pool.specs.declared.TheConstants.{PAGE}

-- The mirror of a script over these devices, none of whose ops is done: all blocks are fresh on both legs, its pages are zeros, and no entry of the schedule is used.
pub record IsBegun (s : Script) (devices : List DeviceInfo) (begun : Mirror) : Type 0 where
  pub mirror : IsMirror begun
  pub script_is : begun.plan.script ≡ s
  pub devices_are : begun.plan.devices.items ≡ devices
  pub none : begun.replies.items ≡ []
  pub unused : begun.state.used ≡ 0
  pub marks : begun.state.marks.items ≡ replicate (half_of s devices) fresh
  pub pages : flat begun.state.pool ≡ replicate (PAGE * s.pages) 0

-- ---- a script that was run on a mirror

-- What holds of a mirror over known blocks, where no request on a leg names the medium but as `fail` lines say, and no overwrite failed: one good leg is enough.
pub record OnIntactLegs (s : Script) (devices : List DeviceInfo) (before after : List Stored) (lost : ℕ) : Type 0 where
  -- In type 1 under protect field 001b, over clean and equal legs, of which each block has one where no fault line alters it:
  -- each read is whole and last accepted, no block is lost, and both legs hold what was last accepted.
  pub enough : IsOneGoodRun s devices before → WasEnough s devices before after lost
  -- So it is by what a reader of the script sees of its faults, legs and escapes.
  pub formed : IsFormedMirror s devices before → WasEnough s devices before after lost
  -- So it is of a script without faults and overwrites, under any protect field.
  pub still : IsStillMirror s devices before → WasEnough s devices before after lost

-- A script was run on a mirror over the image of this name, and the mirror was repaired.
pub record HasMirrored (run : Mirrored) (s : Script) (name : List ℕ) (old new : RigState) : Type 0 where
  -- The image was opened, its devices told what they are, and the script was bound to a mirror over them.
  pub devices : List DeviceInfo
  pub told : RigState
  pub asked : WasAsked name devices old told
  pub bound : IsBoundMirror s devices
  pub begun : Mirror
  pub starts : IsBegun s devices begun
  -- Its ops were done, and then the repair, by which runs on the legs: over any rig, and over known blocks as the mirror's walk does.
  pub ended : Finished s devices (stage_of begun [] told) run.mirror run.repair.repaired run.repair.lost new
  -- The rig tells its image and its blocks afterwards exactly where it did before.
  pub tells : is_some new.image ≡ is_some told.image
  pub tells_blocks : is_some new.units ≡ is_some told.units
  -- A told image is the first 512 bytes that it had, and then the told blocks.
  pub holds : HoldsBlocks told new
  -- Over any rig, while the count of faults doesn't rise, no request on a leg names the medium but as `fail` lines say, and no overwrite fails.
  pub silent : Calm told.faults new.faults → NoneUnscheduled (ended.stage.runs ++ ended.runs) run.mirror.replies.items
  -- Over known blocks, where none does and none fails, one good leg is enough.
  pub intact : (known : KnownBlocks told new) → NoneUnscheduled (ended.stage.runs ++ ended.runs) run.mirror.replies.items → OnIntactLegs s devices known.before known.after run.repair.lost
  -- Over known blocks, whatever store calls failed, each block that is listed was found bad by the check of a layer, or failed at the medium.
  pub failing : KnownBlocks told new → All NamesFaults run.mirror.replies.items
  -- And of each block with a leg on which nothing alters it and no request names it for the medium, where what lines and overwrites do to it on the other is shown: each read is right, and the repair leaves it right on that leg.
  pub spared : (known : KnownBlocks told new) → KeepsSpared s devices (stage_of begun [] told) (length s.ops) ended.stage ended.served.stood known.before known.after (ended.stage.runs ++ ended.runs)

-- The source was read to its end, and its script was run on a mirror.
pub record HasMirroredSource (run : Mirrored) (f : Facts) : Type 0 where
  pub script : Script
  pub read : HasRead script f.left f.left_after f.reads f.reads_after
  pub ran : HasMirrored run script f.name f.rig f.rig_after

-- ---- and one that wasn't

-- No entry is at fault, and the script has a fault on a mirror over its volume, the first.
pub record IsMirrorUnbound (bad : ScriptFault) (s : Script) (name : List ℕ) (old new : RigState) : Type 0 where
  pub devices : List DeviceInfo
  pub asked : WasAsked name devices old new
  pub table : Table
  pub made : HasTable s devices table
  pub bound : mirror_fault s table devices ≡ Some bad

-- Memory was wanting in the middle: some ops were done, and the next one, or the repair, was broken off.
pub record StoppedMidway (s : Script) (name : List ℕ) (old new : RigState) : Type 0 where
  pub devices : List DeviceInfo
  pub told : RigState
  pub asked : WasAsked name devices old told
  pub bound : IsBoundMirror s devices
  pub begun : Mirror
  pub starts : IsBegun s devices begun
  pub broke : Broke s devices (stage_of begun [] told) new
  pub tells : is_some new.image ≡ is_some told.image
  pub holds : HoldsBlocks told new

-- Why a script wasn't run on a mirror to its end, and what that leaves.
abbrev pub CauseStopped : Refusal → Script → List ℕ → RigState → RigState → Type 0
CauseStopped (refusal.Script bad) s name old new = IsMirrorUnbound bad s name old new
CauseStopped (refusal.Volume entry kind) s name old new = HasBadVolume entry kind s name old new
CauseStopped refusal.Memory s name old new = StoppedShort name old new ⊎ StoppedMidway s name old new
CauseStopped why s name old new = CauseUntold why name old new

-- Why a call doesn't come to its end: the source gives no script, and the rig is as before; or it was read to its end, and its script stopped.
abbrev pub CauseRefused : Refusal → Facts → Type 0
CauseRefused r f =
    (CauseUntaken r f.left f.left_after f.reads f.reads_after × (f.rig_after ≡ f.rig))
    ⊎ ((s : Script) × HasRead s f.left f.left_after f.reads f.reads_after × CauseStopped r s f.name f.rig f.rig_after)

-- A text of the language, an image whose head is right, and a script without a fault on a mirror over it, and no fault of the source: then nothing in them is refused.
abbrev pub IsComplete : Refusal → Facts → Type 0
IsComplete r f =
    (text image : List ℕ) (s : Script) → f.left ≡ Some text → script_in text ≡ Ok s → f.rig.image ≡ Some image → head_fault (head_of image) ≡ None → table_fault s.entries (devices_of image) s.block ≡ None →
    mirror_fault s (table_over s.entries (devices_of image)) (devices_of image) ≡ None → Calm f.reads f.reads_after → IsFromOutside r
