use Rattle.std.specs.Prelude.{ℕ, ◌≡◌, Bool, ◌||◌, ltb, List, drop, Some, None, Ok}
use Rattle.dix_base.specs.Told.{Calm}
use Rattle.call_verdict.specs.Words.{image_in}
use Rattle.rig_api.specs.Head.{head_fault, head_of}
use Rattle.rig_api.specs.Log.{LogEntry}
use Rattle.run_words.specs.Explained.{CauseNotRun, HasMarked, HasMisfit}
use Rattle.run_words.specs.Texts.{explained_text}
use Rattle.run_words.specs.Unseen.{unseen_of}
use Rattle.script_text.specs.Bindings.{binding_fault}
use Rattle.script_text.specs.Language.{script_in}
use Rattle.script_text.specs.declared.script.Script.{Script}
use Rattle.stack_ops.specs.declared.reply.Reply.{Reply}
use Rattle.run_command.specs.Texts.{has_bad}
use Rattle.run_command.specs.Verdict.{Facts as Call, HasRead, HasRun, devices_of, table_over}
use Rattle.run_command.specs.declared.verdict.Finished.{Finished}
use Rattle.volume_table.specs.Faults.{table_fault}
use Rattle.call_verdict.specs.Verdicts.{RunsOrWants, Work, done_status}
use Rattle.call_verdict.specs.declared.status.Status.{Status}
use Rattle.call_verdict.specs.declared.status.Status.TheVariants as status
use Rattle.lab_run.specs.Calls.{Facts}
use Rattle.lab_run.specs.Texts.{lab}
use Rattle.lab_run.specs.declared.refusal.Refusal.{Refusal}
use Rattle.lab_run.specs.declared.refusal.Refusal.TheVariants as refusal

-- ---- explain IMAGE: the script of the source was run over the image, and its report and what it means were written; or its fault was marked

-- the call that runs the script
abbrev pub explain_call : Facts → Call
explain_call f = record { name = image_in f.words; left = f.left; left_after = f.left_after; reads = f.reads; reads_after = f.reads_after; rig = f.rig; rig_after = f.rig_after }

-- what is told: the run of a script, with the records of the call, or the fault of a script, or of its volume, by a text that marks it
pub data Told : Type 0 where
  Ran : Script → Finished → List LogEntry → Told
  Marked : (said : List ℕ) → Told
  Misfit : (said : List ℕ) → Told

-- Some block is listed, or some block of a read isn't what was last accepted though nobody lists it.
abbrev pub is_run_bad : Script → List LogEntry → List Reply → Bool
is_run_bad script log replies = has_bad replies || ltb 0 (unseen_of script log replies)

-- the status of what is told
abbrev pub told_status : Told → Status
told_status (Ran script run log) = done_status (is_run_bad script log run.stack.replies.items)
told_status (Marked said) = status.Input
told_status (Misfit said) = status.Image

-- the report of the run, the records of the call in words, where the listed blocks stand and lie, and which blocks of reads nobody lists though they aren't what was last accepted; or the marked text
abbrev pub told_text : Told → List ℕ
told_text (Ran script run log) = explained_text script log run.stack.replies.items
told_text (Marked said) = said
told_text (Misfit said) = said

-- The script of the source was run over the image, and these are the records of the call.
pub record HasToldRun (script : Script) (run : Finished) (log : List LogEntry) (f : Facts) : Type 0 where
  pub read : HasRead script f.left f.left_after f.reads f.reads_after
  pub ran : HasRun run script (image_in f.words) f.rig f.rig_after
  pub log_is : log ≡ drop run.first f.rig_after.log

-- It was run; or it is at fault, in its text or over its volume, and the text marks it there; or an entry of its volume doesn't fit the devices, and the text marks its line.
abbrev pub HasTold : Told → Facts → Type 0
HasTold (Ran script run log) f = HasToldRun script run log f
HasTold (Marked said) f = HasMarked said (explain_call f)
HasTold (Misfit said) f = HasMisfit said (explain_call f)

-- why it comes to no run otherwise
abbrev pub CauseNotTold : Refusal → Facts → Type 0
CauseNotTold (refusal.Stopped s) f = CauseNotRun s (explain_call f)
CauseNotTold _ f = ⊥

-- A script of the language that is told, over an image that is told and right, over whose devices script and volume have no fault, gives 0 or 1, or want of memory, if neither source nor rig fails.
abbrev pub ExplainsRun : Facts → Status → Type 0
ExplainsRun f s =
    (text image : List ℕ) (script : Script) → f.left ≡ Some text → script_in text ≡ Ok script → f.rig.image ≡ Some image → head_fault (head_of image) ≡ None → table_fault script.entries (devices_of image) script.block ≡ None →
    binding_fault script (table_over script.entries (devices_of image)) (devices_of image) ≡ None → Calm f.reads f.reads_after → Calm f.rig.faults f.rig_after.faults → RunsOrWants s

-- its record
abbrev pub explain_work : Work lab
explain_work = record {
  Yield = Told;
  WasDone = HasTold;
  status = told_status;
  text = told_text;
  WasRefused = CauseNotTold;
  Answers = ExplainsRun;
}
