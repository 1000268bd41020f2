use Rattle.std.specs.Prelude.{ℕ, ◌≡◌, true, false, List, ◌++◌, length, Some, None, Ok}
use Rattle.dix_base.specs.Told.{Calm}
use Rattle.call_verdict.specs.Words.{image_in}
use Rattle.rig_api.specs.Head.{head_fault, head_of, units_of}
use Rattle.rig_api.specs.Log.{LogEntry}
use Rattle.rig_api.specs.declared.rig.RigFault.{RigFault}
use Rattle.script_text.specs.Bindings.{binding_fault}
use Rattle.script_text.specs.Language.{script_in}
use Rattle.script_text.specs.declared.fault.ScriptFault.{ScriptFault}
use Rattle.script_text.specs.declared.script.Script.{Script}
use Rattle.run_command.specs.Verdict.{Facts as PlayFacts, devices_of, table_over}
use Rattle.script_words.specs.Cuts.{lines_of}
use Rattle.vector_lines.specs.Texts.{is_list, list_in}
use Rattle.vector_lines.specs.declared.line.VectorLine.{VectorLine}
use Rattle.vector_runs.specs.ListText.{has_sense}
use Rattle.vector_runs.specs.Played.{CauseNotPlayed, HasPlayed, played_text}
use Rattle.vector_runs.specs.Ranges.{out_of_range}
use Rattle.vector_runs.specs.Taken.{text_fault}
use Rattle.vector_runs.specs.Unplayed.{unplayed}
use Rattle.vector_runs.specs.declared.playing.Played.{Played}
use Rattle.volume_table.specs.Faults.{table_fault}
use Rattle.lab_run.specs.Calls.{Facts}
use Rattle.call_verdict.specs.Verdicts.{RunsOrWants, Work, done_status}
use Rattle.call_verdict.specs.declared.status.Status.{Status}
use Rattle.lab_run.specs.Telling.{RefusesImage, RefusesInput}
use Rattle.lab_run.specs.Texts.{lab}
use Rattle.lab_run.specs.declared.refusal.Refusal.{Refusal}
use Rattle.lab_run.specs.declared.refusal.Refusal.TheVariants as refusal

-- ---- vectors IMAGE: the commands of the source's text were done, and their vectors were written

-- its call, as one that does the commands of a source's text
abbrev pub played_by : Facts → PlayFacts
played_by f = record { name = image_in f.words; left = f.left; left_after = f.left_after; reads = f.reads; reads_after = f.reads_after; rig = f.rig; rig_after = f.rig_after }

-- The commands of the text were done, and these are all records of the call.
abbrev pub WerePlayed : Played × List LogEntry → Facts → Type 0
WerePlayed x f = HasPlayed x.0 (played_by f) × (f.rig_after.log ≡ f.rig.log ++ x.1)

-- why they weren't
abbrev pub CauseNotAnswered : Refusal → Facts → Type 0
CauseNotAnswered (refusal.Stopped s) f = CauseNotPlayed s (played_by f)
CauseNotAnswered _ f = ⊥

-- Neither source nor rig failed.
abbrev pub AreCalmAll : Facts → Type 0
AreCalmAll f = Calm f.reads f.reads_after × Calm f.rig.faults f.rig_after.faults

-- What a call of `vectors` answers to texts and images that are told, if neither source nor rig fails. Each of them may come to want of memory.
pub record PlaysTexts (f : Facts) (s : Status) : Type 0 where
  -- a text at fault gives 3
  pub wrong : (text : List ℕ) (bad : ScriptFault) → f.left ≡ Some text → text_fault text ≡ Some bad → AreCalmAll f → RefusesInput s
  -- another one over an image whose head has a fault gives 4
  pub head : (text image : List ℕ) (x : RigFault) → f.left ≡ Some text → text_fault text ≡ None → f.rig.image ≡ Some image → head_fault (head_of image) ≡ Some x → AreCalmAll f → RefusesImage s
  -- a right list, a line of which its image can't do, gives 3
  pub range : (text image : List ℕ) (lines : List VectorLine) (bad : ScriptFault) → f.left ≡ Some text → is_list (lines_of text) ≡ true → list_in text ≡ Ok lines → f.rig.image ≡ Some image → head_fault (head_of image) ≡ None →
      out_of_range (length (units_of (head_of image))) lines ≡ Some bad → AreCalmAll f → RefusesInput s
  -- a right list that its image can do gives 0 or 1
  pub list : (text image : List ℕ) (lines : List VectorLine) → f.left ≡ Some text → is_list (lines_of text) ≡ true → list_in text ≡ Ok lines → f.rig.image ≡ Some image → head_fault (head_of image) ≡ None →
      out_of_range (length (units_of (head_of image))) lines ≡ None → AreCalmAll f → RunsOrWants s
  -- so does a right script that runs over its image
  pub script : (text image : List ℕ) (script : Script) → f.left ≡ Some text → is_list (lines_of text) ≡ false → script_in text ≡ Ok script → unplayed script ≡ None → f.rig.image ≡ Some image → head_fault (head_of image) ≡ None →
      table_fault script.entries (devices_of image) script.block ≡ None → binding_fault script (table_over script.entries (devices_of image)) (devices_of image) ≡ None → AreCalmAll f → RunsOrWants s

-- its record
abbrev pub vectors_work : Work lab
vectors_work = record {
  Yield = Played × List LogEntry;
  WasDone = WerePlayed;
  status = λ x. done_status (has_sense x.1);
  text = λ x. played_text x.0 x.1;
  WasRefused = CauseNotAnswered;
  Answers = PlaysTexts;
}
