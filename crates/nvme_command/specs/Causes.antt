use Rattle.std.specs.Prelude.{ℕ, ◌≡◌, ◌⊎◌, Bool, List, [], length, Option, Some, None, Ok, Err}
use Rattle.dix_base.specs.Told.{Calm, Rose}
use Rattle.dix_base.specs.Reading.{IsOver, IsWhole}
use Rattle.rig_api.specs.Target.{Stored}
use Rattle.rig_api.specs.Head.{units_of}
use Rattle.rig_api.specs.Telling.{units_told}
use Rattle.rig_api.specs.State.{RigState}
use Rattle.script_lines.specs.declared.kind.ScriptKind.TheVariants.{TooMany}
use Rattle.volume_table.specs.declared.device.DeviceInfo.{DeviceInfo}
use Rattle.rig_discovery.specs.Discovery.{HasFound}
use Rattle.rig_discovery.specs.Openings.{HasOpened}
use Rattle.call_refusal.specs.Causes.{CauseUntold}
use Rattle.call_refusal.specs.declared.refusal.Refusal.{Refusal}
use Rattle.call_refusal.specs.declared.refusal.Refusal.TheVariants as refusal
use Rattle.nvme_front.specs.Answers.{HasNamespaces}
use Rattle.nvme_command.specs.Texts.{text_in}
use Rattle.nvme_command.specs.declared.line.NvmLine.{NvmLine}
use Rattle.script_text.specs.declared.fault.ScriptFault.{ScriptFault}
use Rattle.nvme_command.specs.Done.{Came, CameInPart, replies_over, units_over}
use Rattle.nvme_command.specs.Fits.{misfit}
use Rattle.nvme_command.specs.Replies.{has_failed, replies_text}

-- What a call comes to: the commands done, or why not.

-- The source was read to its end, no call of it failed, and it held a text of these lines.
pub record HasLines (lines : List NvmLine) (left left' : Option (List ℕ)) (reads reads' : ℕ) : Type 0 where
  pub text : List ℕ
  pub whole : IsWhole text left left'
  pub lines_are : text_in text ≡ Ok lines
  pub calm : reads' ≡ reads

-- The source was read to its end and held a text with this first fault, or more than a text may have.
abbrev pub HasNoLines : ScriptFault → Option (List ℕ) → Option (List ℕ) → Type 0
HasNoLines f left left' = ((text : List ℕ) × IsWhole text left left' × (text_in text ≡ Err f)) ⊎ ((f ≡ record { line = 0; kind = TooMany }) × IsOver left left')

-- The image of this name was opened, and its devices told what they are.
pub record HasAsked (name : List ℕ) (devices : List DeviceInfo) (old new : RigState) : Type 0 where
  pub between : RigState
  pub since : HasOpened name old between new
  pub counted : between.standing.devices ≡ length (units_of between.standing.head)
  pub found : HasFound between.standing devices between.log new.log

-- They are the rig's, and where the blocks are told they are its units. No fault is armed.
pub record HasTold (name : List ℕ) (devices : List DeviceInfo) (old new : RigState) : Type 0 where
  pub asked : HasAsked name devices old new
  pub armed : new.armed ≡ []
  pub devices_are : HasNamespaces devices new.standing new.units

-- The metadata of this line don't fit its command, and no command was done.
pub record HasMisfit (f : ScriptFault) (name : List ℕ) (lines : List NvmLine) (old new : RigState) : Type 0 where
  pub devices : List DeviceInfo
  pub told : HasTold name devices old new
  pub line_is : misfit devices lines ≡ Some f

-- The commands of the first lines were done, whose metadata all fit.
pub record HasDoneInPart (name : List ℕ) (lines : List NvmLine) (old new : RigState) : Type 0 where
  pub devices : List DeviceInfo
  pub between : RigState
  pub told : HasTold name devices old between
  pub fit : misfit devices lines ≡ None
  pub came : CameInPart devices lines between new

-- The image was opened, its devices told what they are, and the metadata of all lines fit; then the command of each was done. Where the blocks are told and the count of faults didn't rise the replies are exactly the answers of its units.
pub record HasDone (name : List ℕ) (lines : List NvmLine) (text : List ℕ) (bad : Bool) (old new : RigState) : Type 0 where
  pub devices : List DeviceInfo
  pub between : RigState
  pub told : HasTold name devices old between
  pub fit : misfit devices lines ≡ None
  pub came : Came devices lines text bad between new
  pub exact : (us : List Stored) → between.units ≡ Some us → Calm between.faults new.faults
      → (text ≡ replies_text (replies_over us lines)) × (bad ≡ has_failed (replies_over us lines)) × (new.units ≡ Some (units_over us lines))
  pub laid : new.units ≡ units_told new.standing new.image

-- Why it isn't known what the devices of an image are: it isn't opened, a device's answer is at fault, or there is no memory, also behind the last answer. The armed faults are as before.
abbrev pub CauseClosed : Refusal → (name : List ℕ) → RigState → RigState → Type 0
CauseClosed refusal.Memory name old new = CauseUntold refusal.Memory name old new ⊎ ((devices : List DeviceInfo) × HasAsked name devices old new × (new.armed ≡ old.armed))
CauseClosed why name old new = CauseUntold why name old new

-- Why no command of an opened image is done, or not all are. What was found of the lines comes before.
abbrev pub CauseUndone : Refusal → (name : List ℕ) → List NvmLine → RigState → RigState → Type 0
CauseUndone (refusal.Script f) name lines old new = HasMisfit f name lines old new
CauseUndone refusal.Memory name lines old new = CauseClosed refusal.Memory name old new ⊎ HasDoneInPart name lines old new
CauseUndone why name lines old new = CauseClosed why name old new

-- Why the source's lines aren't read.
abbrev pub CauseUnread : Refusal → (left left' : Option (List ℕ)) → (reads reads' : ℕ) → Type 0
CauseUnread (refusal.Script f) left left' reads reads' = HasNoLines f left left'
CauseUnread refusal.Memory left left' reads reads' = Unit {0}
CauseUnread refusal.ReadFault left left' reads reads' = Rose reads reads'
CauseUnread _ left left' reads reads' = ⊥

-- The commands of the source's lines were done on the image of this name.
pub record WereDone (name text : List ℕ) (bad : Bool) (left left' : Option (List ℕ)) (reads reads' : ℕ) (old new : RigState) : Type 0 where
  pub lines : List NvmLine
  pub read : HasLines lines left left' reads reads'
  pub done : HasDone name lines text bad old new

-- Why not: the lines aren't read, and the rig is as it was; or they are, and what comes behind is at fault.
abbrev pub CauseNotDone : Refusal → (name : List ℕ) → (left left' : Option (List ℕ)) → (reads reads' : ℕ) → RigState → RigState → Type 0
CauseNotDone f name left left' reads reads' old new =
    (CauseUnread f left left' reads reads' × (new ≡ old)) ⊎ ((lines : List NvmLine) × HasLines lines left left' reads reads' × CauseUndone f name lines old new)
