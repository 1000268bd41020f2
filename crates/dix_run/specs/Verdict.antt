use Rattle.std.specs.Prelude.{ℕ, ◌≡◌, List, Option}
use Rattle.nvme_command.specs.Causes.{CauseNotDone}
use Rattle.call_verdict.specs.Words.{image_in}
use Rattle.call_refusal.specs.Texts.{refusal_text as stop_text}
use Rattle.run_command.specs.Verdict.{CauseRefused, Facts as Call}
use Rattle.call_refusal.specs.declared.refusal.Refusal.{Refusal as Stop}
use Rattle.call_refusal.specs.declared.refusal.Refusal.TheVariants as stop
use Rattle.mirror_command.specs.Verdict.{CauseRefused as CauseUnmirrored}
use Rattle.call_verdict.specs.Verdicts.{Program, stop_status}
use Rattle.call_verdict.specs.declared.status.Status.{Status}
use Rattle.call_verdict.specs.declared.status.Status.TheVariants as status
use Rattle.dix_run.specs.declared.refusal.TheConstants.{USAGE}
use Rattle.dix_run.specs.declared.refusal.Refusal.{Refusal}
use Rattle.dix_run.specs.declared.refusal.Refusal.TheVariants as refusal
use Rattle.rig_api.specs.State.{RigState}

-- what a call of the program speaks of: its words, the source and the rig, before and after
pub record Facts : Type 0 where
  pub words : List (List ℕ)
  pub left : Option (List ℕ)
  pub left_after : Option (List ℕ)
  pub reads : ℕ
  pub reads_after : ℕ
  pub rig : RigState
  pub rig_after : RigState

-- the same of a call that runs a script, which knows of the words the image's name
abbrev pub call_of : Facts → Call
call_of f = record { name = image_in f.words; left = f.left; left_after = f.left_after; reads = f.reads; reads_after = f.reads_after; rig = f.rig; rig_after = f.rig_after }

-- ---- refusals

abbrev pub status_of : Refusal → Status
status_of refusal.Words = status.Words
status_of (refusal.Stopped s) = stop_status s

-- the line for words that are no command, as the program has it
abbrev pub usage_text : List ℕ
usage_text = USAGE.now

-- the text of a refusal
abbrev pub refusal_text : Refusal → List ℕ
refusal_text refusal.Words = usage_text
refusal_text (refusal.Stopped s) = stop_text s

-- the program: what its calls speak of, and why it refuses one
abbrev pub dix : Program
dix = record { Facts = Facts; Refusal = Refusal; status_of = status_of; text_of = refusal_text }

-- want of memory
abbrev pub no_memory : Refusal
no_memory = refusal.Stopped stop.Memory

-- The source is as before.
abbrev pub LeavesSource : Facts → Type 0
LeavesSource f = (f.left_after ≡ f.left) × (f.reads_after ≡ f.reads)

-- Why a script isn't run on an image.
abbrev pub CauseNotRun : Refusal → Facts → Type 0
CauseNotRun refusal.Words f = ⊥
CauseNotRun (refusal.Stopped s) f = CauseRefused s (call_of f)

-- Why a script isn't run on a mirror, or not to its end.
abbrev pub CauseNotMirrored : Refusal → Facts → Type 0
CauseNotMirrored refusal.Words f = ⊥
CauseNotMirrored (refusal.Stopped s) f = CauseUnmirrored s (call_of f)

-- Why a command on the image of the words isn't done, which doesn't read the source.
abbrev pub ByCause : (Stop → List ℕ → RigState → RigState → Type 0) → Refusal → Facts → Type 0
ByCause Cause refusal.Words f = ⊥
ByCause Cause (refusal.Stopped s) f = Cause s (image_in f.words) f.rig f.rig_after × LeavesSource f

-- Why NVM commands aren't done, or not all.
abbrev pub CauseNotCommanded : Refusal → Facts → Type 0
CauseNotCommanded refusal.Words f = ⊥
CauseNotCommanded (refusal.Stopped s) f = CauseNotDone s (image_in f.words) f.left f.left_after f.reads f.reads_after f.rig f.rig_after

-- The words are not in the grammar; the rig and the source are as before.
abbrev pub HasNoCommand : Refusal → Facts → Type 0
HasNoCommand r f = (r ≡ refusal.Words) × (f.rig_after ≡ f.rig) × LeavesSource f

-- Want of memory is all that refuses a command on no image; the rig and the source are as before.
abbrev pub WantsMemory : Refusal → Facts → Type 0
WantsMemory r f = (r ≡ no_memory) × (f.rig_after ≡ f.rig) × LeavesSource f
