use Rattle.std.specs.Prelude.{ℕ, ◌≡◌, ◌-◌, true, false, List, Option, Some, None, is_some}
use Rattle.dix_base.specs.Told.{Calm, Rose}
use Rattle.rig_api.specs.Target.{Stop, Stored}
use Rattle.rig_api.specs.State.{RigState}
use Rattle.rig_api.specs.Telling.{HasCause, frame_size, unit_at}
use Rattle.volume_table.specs.declared.device.DeviceInfo.{DeviceInfo}
use Rattle.nvme_front.specs.Answers.{IsNvmAnswer, Submitted, nvm_answer}
use Rattle.nvme_front.specs.Completions.{is_internal, is_of_medium}
use Rattle.nvme_front.specs.Refusals.{device_at}
use Rattle.nvme_front.specs.declared.command.NvmCommand.{NvmCommand}
use Rattle.nvme_front.specs.declared.completion.Completion.{Completion}

-- What a command that isn't refused comes to, with these buffers before and afterwards.

-- Where the rig tells its blocks all is what the namespace's unit answers, with this store call that fails or none.
abbrev pub AnswersWith : Option Stop → List Stored → NvmCommand → (body meta body' meta' : List ℕ) → Completion → (old new : RigState) → Type 0
AnswersWith stop us c body meta body' meta' result old new =
    IsNvmAnswer (nvm_answer (unit_at us (c.nsid - 1)) old.armed c body meta stop) us (c.nsid - 1) result new.units body' meta'

-- where the count of faults didn't rise no store call fails
abbrev pub AnswersCalm : NvmCommand → (body meta body' meta' : List ℕ) → Completion → (old new : RigState) → Type 0
AnswersCalm c body meta body' meta' result old new = (us : List Stored) → old.units ≡ Some us → Calm old.faults new.faults → AnswersWith None us c body meta body' meta' result old new

-- whether or not it rose, one that fails has its cause
abbrev pub AnswersTold : NvmCommand → (body meta body' meta' : List ℕ) → Completion → (old new : RigState) → Type 0
AnswersTold c body meta body' meta' result old new = (us : List Stored) → old.units ≡ Some us
    → (stop : Option Stop) × HasCause stop (frame_size (unit_at us (c.nsid - 1))) old.faults new.faults × AnswersWith stop us c body meta body' meta' result old new

-- One SCSI command was sent; the completion is that of its outcome, and, where the rig tells its blocks, of what the unit answers. Then it is never 0h/06h; and it is an error of the medium only where the count of faults rose.
pub record IsAnswered (devices : List DeviceInfo) (c : NvmCommand) (body meta body' meta' : List ℕ) (result : Completion) (old new : RigState) : Type 0 where
  pub submitted : Submitted (device_at devices c.nsid) c old.standing body meta body' meta' result old.log new.log
  pub told : AnswersTold c body meta body' meta' result old new
  pub never : is_some old.units ≡ true → is_internal result ≡ false
  pub medium : is_of_medium result ≡ true → Rose old.faults new.faults
