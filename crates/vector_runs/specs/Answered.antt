use Rattle.std.specs.Prelude.{ℕ, ◌≡◌, ◌≤◌, ◌⊎◌, List, [], Some, None, length}
use Rattle.rig_api.specs.Head.{units_of}
use Rattle.rig_api.specs.Telling.{units_told}
use Rattle.rig_api.specs.State.{RigState}
use Rattle.image_commands.specs.Causes.{CauseUnopened}
use Rattle.rig_discovery.specs.Openings.{HasKept, OpenedOnce, ImageWasOpened}
use Rattle.call_refusal.specs.declared.refusal.Refusal.{Refusal}
use Rattle.call_refusal.specs.declared.refusal.Refusal.TheVariants as refusal
use Rattle.vector_lines.specs.declared.line.VectorLine.{VectorLine}
use Rattle.vector_runs.specs.Done.{HaveDone, HaveDoneSome}
use Rattle.vector_runs.specs.Ranges.{out_of_range}

-- A list done on an image.

-- The image of this name was opened, its head is right, and its units are the devices. Its bytes and the records are as before, and no fault is armed.
pub record IsReady (name : List ℕ) (old new : RigState) : Type 0 where
  pub opened : ImageWasOpened name None old new
  pub counted : new.standing.devices ≡ length (units_of new.standing.head)
  pub laid : new.units ≡ units_told new.standing new.image
  pub image : new.image ≡ old.image
  pub log : new.log ≡ old.log
  pub armed : new.armed ≡ []
  pub count : old.faults ≤ new.faults

-- It was opened so, it can do the commands of all lines, and they were done.
pub record HasAnswered (name : List ℕ) (lines : List VectorLine) (old new : RigState) : Type 0 where
  pub between : RigState
  pub ready : IsReady name old between
  pub inside : out_of_range between.standing.devices lines ≡ None
  pub done : HaveDone lines between new

-- It was opened so, and then memory lacked, where some of the commands were done.
pub record BrokeOff (name : List ℕ) (lines : List VectorLine) (old new : RigState) : Type 0 where
  pub between : RigState
  pub ready : IsReady name old between
  pub inside : out_of_range between.standing.devices lines ≡ None
  pub done : HaveDoneSome lines between new

-- Why a list isn't done: its first line that can't be done, the image that isn't opened, or no memory, before the image is opened or between two commands. Only in the last case was a command done.
abbrev pub CauseUnanswered : Refusal → List ℕ → List VectorLine → RigState → RigState → Type 0
CauseUnanswered (refusal.Script f) name lines old new = IsReady name old new × (out_of_range new.standing.devices lines ≡ Some f)
CauseUnanswered refusal.Memory name lines old new = (HasKept old new × OpenedOnce name old.standing new.standing) ⊎ BrokeOff name lines old new
CauseUnanswered why name lines old new = CauseUnopened why name old new × HasKept old new
