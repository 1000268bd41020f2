use Rattle.std.specs.Prelude.{ℕ, ◌≡◌, ◌+◌, ◌⊎◌, List, length, map, Option, Some, None, Err, Ok}
use Rattle.dix_base.specs.Told.{Calm, Rose}
use Rattle.page_pool.specs.Pages.{IsBlank}
use Rattle.stack_walk_laws.specs.Passed.{mode_of, Holds}
use Rattle.rig_discovery.specs.Openings.{HasKept, OpenedOnce, WasTold}
use Rattle.call_refusal.specs.Causes.{CauseUntold}
use Rattle.rig_api.specs.Head.{head_fault, head_of, units_of}
use Rattle.rig_api.specs.State.{RigState}
use Rattle.call_refusal.specs.Passed.{info_of}
use Rattle.script_lines.specs.declared.kind.ScriptKind.TheVariants.{TooMany}
use Rattle.script_text.specs.Bindings.{binding_fault}
use Rattle.script_text.specs.Language.{script_in}
use Rattle.script_text.specs.declared.fault.ScriptFault.{ScriptFault}
use Rattle.script_text.specs.declared.script.Script.{Script}
use Rattle.stack_walk_laws.specs.Requests.{pages_from, requests_from}
use Rattle.stack_core.specs.Stacks.{IsFinished, IsStack, StackStays, plan_in}
use Rattle.stack_core.specs.declared.stack.Stack.{Stack}
use Rattle.stack_laws.specs.View.{start}
use Rattle.volume_table.specs.Faults.{table_fault, volume_type}
use Rattle.volume_table.specs.Tables.{MadeFor, Table}
use Rattle.volume_table.specs.declared.device.DeviceInfo.{DeviceInfo}
use Rattle.volume_table.specs.declared.entry.Entry.{Entry}
use Rattle.volume_table.specs.declared.fault.VolumeFault.TheVariants.{At}
use Rattle.volume_table.specs.declared.fault.VolumeKind.{VolumeKind}
use Rattle.dix_base.specs.Reading.{IsOver, IsWhole, TookAtMost, most_bytes}
pub use Rattle.run_command.specs.Premises.{opening_told, setting_told}
use Rattle.call_refusal.specs.declared.refusal.Refusal.{Refusal}
use Rattle.call_refusal.specs.declared.refusal.Refusal.TheVariants as refusal
use Rattle.run_command.specs.declared.verdict.Finished.{Finished}
pub use Rattle.run_command.specs.Followed.{AllReadBy, AllReadRightly, AllReadStored, Followed, HasPlain, HasReadBy, HoldsBlocks, OnAnyRig, OnFailingMedium, OnIntactMedium, RunReadsStored, RunReadsRightly}

-- what a call speaks of: the name of the image, and the source and the rig, before and after
pub record Facts : Type 0 where
  pub name : List ℕ
  pub left : Option (List ℕ)
  pub left_after : Option (List ℕ)
  pub reads : ℕ
  pub reads_after : ℕ
  pub rig : RigState
  pub rig_after : RigState

-- The source was read to its end, and no call of it failed; what it held is the text of this script.
pub record HasRead (script : Script) (old new : Option (List ℕ)) (o n : ℕ) : Type 0 where
  pub text : List ℕ
  pub whole : IsWhole text old new
  pub reads : script_in text ≡ Ok script
  pub calm : n ≡ o

-- The source was read to its end, and this is the first fault of the text that it held; or one byte more was taken than a script may have.
abbrev pub HoldsFault : ScriptFault → Option (List ℕ) → Option (List ℕ) → Type 0
HoldsFault f old new = ((text : List ℕ) × IsWhole text old new × (script_in text ≡ Err f)) ⊎ (IsOver old new × (f ≡ record { line = 0; kind = TooMany }))

-- The table of the script's volume over these devices, none of whose entries is at fault.
pub record HasTable (script : Script) (devices : List DeviceInfo) (table : Table) : Type 0 where
  pub entries : table.entries ≡ script.entries
  pub ty : table.ty ≡ volume_type script.entries devices
  pub made : MadeFor table devices script.block

-- The image of this name was opened, and all of its devices told what they are. Nothing else was done.
pub record WasAsked (name : List ℕ) (devices : List DeviceInfo) (old new : RigState) : Type 0 where
  pub told : WasTold name devices old new
  pub all : new.standing.devices ≡ length (units_of new.standing.head)

-- The image was opened, its devices told what they are, and an entry of the script's volume is at fault over them, the first.
pub record HasBadVolume (entry : ℕ) (kind : VolumeKind) (script : Script) (name : List ℕ) (old new : RigState) : Type 0 where
  pub devices : List DeviceInfo
  pub asked : WasAsked name devices old new
  pub bad : table_fault script.entries devices script.block ≡ Some (At entry kind)

-- No entry is at fault, and the script has a fault over its volume, the first.
pub record IsUnbound (bad : ScriptFault) (script : Script) (name : List ℕ) (old new : RigState) : Type 0 where
  pub devices : List DeviceInfo
  pub asked : WasAsked name devices old new
  pub table : Table
  pub made : HasTable script devices table
  pub bound : binding_fault script table devices ≡ Some bad

-- The image was opened at most once, its bytes, the armed faults and the records are as before; or it was opened, and no more was done than asking its devices what they are.
abbrev pub StoppedShort : List ℕ → RigState → RigState → Type 0
StoppedShort name old new = (HasKept old new × OpenedOnce name old.standing new.standing) ⊎ ((devices : List DeviceInfo) × WasAsked name devices old new)

-- Why a script comes to no run over the image of this name, and what that leaves.
abbrev pub CauseStopped : Refusal → Script → List ℕ → RigState → RigState → Type 0
CauseStopped (refusal.Script bad) script name old new = IsUnbound bad script name old new
CauseStopped (refusal.Volume entry kind) script name old new = HasBadVolume entry kind script name old new
CauseStopped refusal.Memory script name old new = StoppedShort name old new
CauseStopped why script name old new = CauseUntold why name old new

-- Why a source gives no script: its text has a fault, there is no memory, or the source failed.
abbrev pub CauseUntaken : Refusal → Option (List ℕ) → Option (List ℕ) → ℕ → ℕ → Type 0
CauseUntaken (refusal.Script bad) old new o n = HoldsFault bad old new
CauseUntaken refusal.Memory old new o n = TookAtMost (most_bytes + 1) old new
CauseUntaken refusal.ReadFault old new o n = Rose o n × TookAtMost most_bytes old new
CauseUntaken _ old new o n = ⊥

-- Why a call comes to no run: the source gives no script, and the rig is as before; or it was read to its end, and its script comes to no run.
abbrev pub CauseRefused : Refusal → Facts → Type 0
CauseRefused r f =
    (CauseUntaken r f.left f.left_after f.reads f.reads_after × (f.rig_after ≡ f.rig))
    ⊎ ((script : Script) × HasRead script f.left f.left_after f.reads f.reads_after × CauseStopped r script f.name f.rig f.rig_after)

-- The stack of a script over its volume, none of whose ops has begun.
pub record IsBegun (script : Script) (table : Table) (s : Stack) : Type 0 where
  pub stack : IsStack s
  pub first : Holds (plan_in s.sheet) s.machine (start (plan_in s.sheet))
  pub ops : s.sheet.ops ≡ script.ops
  pub ios : s.sheet.ios.items ≡ requests_from script.mode.dix script.pages script.ops
  pub table_is : s.sheet.table ≡ table
  pub limits : s.sheet.limits ≡ script.limits
  pub mode : mode_of s.adapter ≡ script.mode
  pub faults : s.adapter.tamper ≡ script.faults
  pub pool : IsBlank (pages_from script.mode.dix script.pages script.ops) s.pool

-- All ops of the stack have ended, and what no step changes is as it was.
pub record IsEnded (begun s : Stack) : Type 0 where
  pub stack : IsStack s
  pub stays : StackStays begun s
  pub ended : IsFinished s

-- The image was opened, its devices told what they are, the script is bound to its volume, and the stack of its ops was run to its end.
pub record HasRun (run : Finished) (script : Script) (name : List ℕ) (old new : RigState) : Type 0 where
  pub devices : List DeviceInfo
  pub told : RigState
  pub asked : WasAsked name devices old told
  pub table : Table
  pub made : HasTable script devices table
  pub bound : binding_fault script table devices ≡ None
  pub begun : Stack
  pub starts : IsBegun script table begun
  pub ends : IsEnded begun run.stack
  pub followed : Followed script table devices told new run.stack.pool run.stack.replies.items
  pub first : run.first ≡ length old.log

-- The source was read to its end, and its script was run.
pub record HasRunSource (run : Finished) (f : Facts) : Type 0 where
  pub script : Script
  pub read : HasRead script f.left f.left_after f.reads f.reads_after
  pub ran : HasRun run script f.name f.rig f.rig_after

-- the devices of an image
abbrev pub devices_of : List ℕ → List DeviceInfo
devices_of image = map info_of (units_of (head_of image))

abbrev pub table_over : List Entry → List DeviceInfo → Table
table_over entries devices = record { entries = entries; ty = volume_type entries devices }

-- want of memory, or a fault of the rig as the image is opened
abbrev pub IsFromOutside : Refusal → Type 0
IsFromOutside r = (r ≡ refusal.Memory) ⊎ (r ≡ refusal.RigFault)

-- An image whose head is right, over whose devices the script and its volume have no fault: then nothing in them is refused.
abbrev pub StopsFromOutside : Refusal → Script → RigState → Type 0
StopsFromOutside r script old =
    (image : List ℕ) → old.image ≡ Some image → head_fault (head_of image) ≡ None → table_fault script.entries (devices_of image) script.block ≡ None →
    binding_fault script (table_over script.entries (devices_of image)) (devices_of image) ≡ None → IsFromOutside r

-- A text of the language, such an image, and no fault of the source: then nothing in them is refused.
abbrev pub IsComplete : Refusal → Facts → Type 0
IsComplete r f =
    (text image : List ℕ) (script : Script) → f.left ≡ Some text → script_in text ≡ Ok script → f.rig.image ≡ Some image → head_fault (head_of image) ≡ None → table_fault script.entries (devices_of image) script.block ≡ None →
    binding_fault script (table_over script.entries (devices_of image)) (devices_of image) ≡ None → Calm f.reads f.reads_after → IsFromOutside r
