use Rattle.std.specs.Prelude.{ℕ, ◌≡◌, ◌-◌, ◌≤◌, ◌⊎◌, Bool, true, false, not, ◌||◌, List, [], ◌∷◌, ◌++◌, replicate, map, Option, Some, None, is_some}
use Rattle.dix_base.specs.Told.{Rose}
use Rattle.rig_api.specs.Target.{Stop, Stored}
use Rattle.rig_api.specs.Telling.{HasCause, frame_size, unit_at, with_blocks}
use Rattle.rig_api.specs.State.{RigState}
use Rattle.volume_table.specs.declared.device.DeviceInfo.{DeviceInfo}
use Rattle.nvme_front.specs.Answers.{HasNamespaces, IsNvmAnswer, NvmAnswer, Submitted, device_of, nvm_answer}
use Rattle.nvme_front.specs.Completions.{is_internal, is_of_medium, is_success}
use Rattle.nvme_front.specs.Refusals.{body_len, meta_len, refusal}
use Rattle.nvme_front.specs.declared.completion.Completion.{Completion}
use Rattle.nvme_command.specs.declared.line.NvmLine.{NvmLine}
use Rattle.nvme_command.specs.Sessions.{given}
use Rattle.nvme_command.specs.Fits.{command_of, device_of_line}
use Rattle.nvme_command.specs.Replies.{LineReply, has_failed, replies_text, reply_line}

-- Commands done over a rig.

-- the number of the device of a line's namespace
abbrev pub dev_of : NvmLine → ℕ
dev_of l = (command_of l).nsid - 1

-- the buffers that the command of a line gets: data of its byte, and its metadata or, for a read, zeros
abbrev pub body_given : DeviceInfo → NvmLine → List ℕ
body_given d l = replicate (body_len d (command_of l)) l.fill

abbrev pub meta_given : DeviceInfo → NvmLine → List ℕ
meta_given d l = given (meta_len d.ty (command_of l)) l.meta

-- The command of a line was done over any rig. One that is refused sends nothing; another sends just one SCSI command, its completion is that of its outcome, and the buffers are its frames.
-- Where the blocks are told all is the unit's answer, up to a store call that failed. Errors of the medium come only where the count of faults rose, and 0h/06h never where the blocks are told.
-- The armed faults are as before.
pub record WasDone (devices : List DeviceInfo) (l : NvmLine) (r : LineReply) (old new : RigState) : Type 0 where
  pub command_is : r.command ≡ command_of l
  pub refused : (x : Completion) → refusal devices (command_of l) ≡ Some x → (r ≡ record { command = command_of l; completion = x; body = []; meta = [] }) × (new.log ≡ old.log) × (new.units ≡ old.units)
  pub submitted : refusal devices (command_of l) ≡ None → Submitted (device_of_line devices l) (command_of l) old.standing (body_given (device_of_line devices l) l) (meta_given (device_of_line devices l) l) r.body r.meta r.completion old.log new.log
  pub told : refusal devices (command_of l) ≡ None → (us : List Stored) → old.units ≡ Some us → (stop : Option Stop) × HasCause stop (frame_size (unit_at us (dev_of l))) old.faults new.faults
      × IsNvmAnswer (nvm_answer (unit_at us (dev_of l)) [] (command_of l) (body_given (device_of_line devices l) l) (meta_given (device_of_line devices l) l) stop) us (dev_of l) r.completion new.units r.body r.meta
  pub never : is_some old.units ≡ true → is_internal r.completion ≡ false
  pub medium : is_of_medium r.completion ≡ true → Rose old.faults new.faults
  pub devices_are : HasNamespaces devices new.standing new.units
  pub tells : is_some new.image ≡ is_some old.image
  pub armed : new.armed ≡ old.armed
  pub standing : new.standing ≡ old.standing
  pub count : old.faults ≤ new.faults

-- The commands of all lines were done, one after another.
abbrev pub AllDone : List DeviceInfo → List NvmLine → List LineReply → RigState → RigState → Type 0
AllDone devices [] [] old new = new ≡ old
AllDone devices [] (r ∷ rs) old new = ⊥
AllDone devices (l ∷ ls) [] old new = ⊥
AllDone devices (l ∷ ls) (r ∷ rs) old new = (between : RigState) × WasDone devices l r old between × AllDone devices ls rs between new

-- The commands of these lines were done, and this is their text.
pub record Came (devices : List DeviceInfo) (lines : List NvmLine) (text : List ℕ) (bad : Bool) (old new : RigState) : Type 0 where
  pub replies : List LineReply
  pub done : AllDone devices lines replies old new
  pub text_is : text ≡ replies_text replies
  pub bad_is : bad ≡ has_failed replies

-- Nothing was sent, and all blocks and the armed faults are as they were.
pub record UnitsStay (old new : RigState) : Type 0 where
  pub units : new.units ≡ old.units
  pub armed : new.armed ≡ old.armed
  pub log : new.log ≡ old.log
  pub standing : new.standing ≡ old.standing
  pub count : old.faults ≤ new.faults

-- The command of a line was done, and its text added.
pub record Adds (devices : List DeviceInfo) (l : NvmLine) (text text' : List ℕ) (bad bad' : Bool) (old new : RigState) : Type 0 where
  pub reply : LineReply
  pub done : WasDone devices l reply old new
  pub text_is : text' ≡ text ++ reply_line reply
  pub bad_is : bad' ≡ (bad || not (is_success reply.completion))

-- There was no memory for the command of a line, or for its text.
abbrev pub Lacks : List DeviceInfo → NvmLine → RigState → RigState → Type 0
Lacks devices l old new = UnitsStay old new ⊎ ((r : LineReply) × WasDone devices l r old new)

-- The commands of some lines, in order from the first, were done, and nothing more was sent.
pub record CameInPart (devices : List DeviceInfo) (lines : List NvmLine) (old new : RigState) : Type 0 where
  pub first : List NvmLine
  pub left : List NvmLine
  pub lines_are : lines ≡ first ++ left
  pub replies : List LineReply
  pub last : RigState
  pub done : AllDone devices first replies old last
  pub stays : UnitsStay last new

-- ---- what commands come to where no store call fails

-- a command's reply, and the units after it
pub record Step : Type 0 where
  pub reply : LineReply
  pub units : List Stored

abbrev pub answered : List Stored → NvmLine → NvmAnswer → Step
answered us l a = record {
  reply = record { command = command_of l; completion = a.completion; body = a.body; meta = a.meta };
  units = with_blocks us (dev_of l) a.blocks;
}

abbrev pub step_by : Option Completion → DeviceInfo → List Stored → NvmLine → Step
step_by (Some x) d us l = record { reply = record { command = command_of l; completion = x; body = []; meta = [] }; units = us }
step_by None d us l = answered us l (nvm_answer (unit_at us (dev_of l)) [] (command_of l) (body_given d l) (meta_given d l) None)

-- what the command of a line comes to over these units: its refusal, or the unit's answer
abbrev pub step_of : List Stored → NvmLine → Step
step_of us l = step_by (refusal (map device_of us) (command_of l)) (device_of_line (map device_of us) l) us l

-- all replies, and the units after the last
abbrev pub replies_over : List Stored → List NvmLine → List LineReply
replies_over us [] = []
replies_over us (l ∷ ls) = (step_of us l).reply ∷ replies_over (step_of us l).units ls

abbrev pub units_over : List Stored → List NvmLine → List Stored
units_over us [] = us
units_over us (l ∷ ls) = units_over (step_of us l).units ls
