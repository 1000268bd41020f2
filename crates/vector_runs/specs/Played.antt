use Rattle.std.specs.Prelude.{ℕ, ◌≡◌, ◌+◌, ◌≤◌, ◌⊎◌, true, false, List, ◌++◌, length, drop, Some, None, Result, Ok, IfErr, IfOk, MatchResult}
use Rattle.dix_base.specs.Told.{Calm}
use Rattle.rig_discovery.specs.Openings.{OpenedOnce}
use Rattle.rig_api.specs.Head.{head_fault, head_of, units_of}
use Rattle.rig_api.specs.Log.{LogEntry}
use Rattle.rig_api.specs.State.{RigState}
use Rattle.script_text.specs.Bindings.{binding_fault}
use Rattle.script_text.specs.Language.{script_in}
use Rattle.script_text.specs.declared.script.Script.{Script}
use Rattle.run_command.specs.Verdict.{CauseStopped, Facts, HasRun, IsFromOutside, devices_of, table_over}
use Rattle.call_refusal.specs.declared.refusal.Refusal.{Refusal}
use Rattle.script_words.specs.Cuts.{lines_of}
use Rattle.vector_lines.specs.Texts.{is_list, list_in}
use Rattle.vector_lines.specs.declared.line.VectorLine.{VectorLine}
use Rattle.vector_runs.specs.Answered.{CauseUnanswered, HasAnswered}
use Rattle.vector_runs.specs.ListText.{list_text}
use Rattle.vector_runs.specs.Ranges.{out_of_range}
use Rattle.vector_runs.specs.RecordText.{vectors_text}
use Rattle.vector_runs.specs.Taken.{CauseNotTaken, HoldsList, HoldsScript}
use Rattle.vector_runs.specs.Unplayed.{unplayed}
use Rattle.vector_runs.specs.declared.playing.Played.{Played}
use Rattle.vector_runs.specs.declared.playing.Played.TheVariants as played
use Rattle.volume_table.specs.Faults.{table_fault}

-- What came of a text whose commands are wanted, and its vectors.

-- the number of the first record of the call
abbrev pub first_of : Played → ℕ
first_of (played.Listed lines first) = first
first_of (played.Ran run) = run.first

-- the vectors of the records of the call: of a list each with what its line sends, of a script each with its moved bytes
abbrev pub played_text : Played → List LogEntry → List ℕ
played_text (played.Listed lines first) entries = list_text lines.items entries
played_text (played.Ran run) entries = vectors_text entries

-- A list was taken from the source, its image was opened, and its commands were done.
pub record HasListed (lines : List VectorLine) (first : ℕ) (f : Facts) : Type 0 where
  pub held : HoldsList lines f.left f.left_after f.reads f.reads_after
  pub answered : HasAnswered f.name lines f.rig f.rig_after
  pub first_is : first ≡ length f.rig.log

abbrev pub HasPlayed : Played → Facts → Type 0
HasPlayed (played.Listed lines first) f = HasListed lines.items first f
HasPlayed (played.Ran run) f = (script : Script) × HoldsScript script f.left f.left_after f.reads f.reads_after × HasRun run script f.name f.rig f.rig_after

-- Why no vectors come: the source gives nothing, and the rig is as before; or the script that was taken doesn't run; or the list that was taken isn't done.
abbrev pub CauseNotPlayed : Refusal → Facts → Type 0
CauseNotPlayed r f =
    (CauseNotTaken r f.left f.left_after f.reads f.reads_after × (f.rig_after ≡ f.rig))
    ⊎ (((script : Script) × HoldsScript script f.left f.left_after f.reads f.reads_after × CauseStopped r script f.name f.rig f.rig_after)
    ⊎ ((lines : List VectorLine) × HoldsList lines f.left f.left_after f.reads f.reads_after × CauseUnanswered r f.name lines f.rig f.rig_after))

-- what a list's done call shows of the list itself, over views alone
abbrev pub ListPlayed : Played → List VectorLine → List ℕ → RigState → RigState → Type 0
ListPlayed (played.Listed ls first) lines name old new = (ls.items ≡ lines) × HasAnswered name lines old new × (first ≡ length old.log)
ListPlayed (played.Ran run) lines name old new = ⊥

abbrev pub ScriptPlayed : Played → Script → List ℕ → RigState → RigState → Type 0
ScriptPlayed (played.Listed ls first) script name old new = ⊥
ScriptPlayed (played.Ran run) script name old new = HasRun run script name old new

-- The rig has the records whose vectors are to be written.
abbrev pub AreLogged : Played → List LogEntry → Type 0
AreLogged (played.Listed lines first) log = first + length lines.items ≤ length log
AreLogged (played.Ran run) log = run.first ≤ length log

-- A list that is told, in whose text, image and lines nothing is at fault: then nothing in them is refused.
abbrev pub ListIsComplete : Refusal → Facts → Type 0
ListIsComplete r f =
    (text image : List ℕ) (lines : List VectorLine) → f.left ≡ Some text → is_list (lines_of text) ≡ true → list_in text ≡ Ok lines → f.rig.image ≡ Some image → head_fault (head_of image) ≡ None →
    out_of_range (length (units_of (head_of image))) lines ≡ None → Calm f.reads f.reads_after → IsFromOutside r

-- The same of a script.
abbrev pub ScriptIsComplete : Refusal → Facts → Type 0
ScriptIsComplete r f =
    (text image : List ℕ) (script : Script) → f.left ≡ Some text → is_list (lines_of text) ≡ false → script_in text ≡ Ok script → unplayed script ≡ None → f.rig.image ≡ Some image → head_fault (head_of image) ≡ None →
    table_fault script.entries (devices_of image) script.block ≡ None → binding_fault script (table_over script.entries (devices_of image)) (devices_of image) ≡ None → Calm f.reads f.reads_after → IsFromOutside r

-- What a call comes to: the commands of its text were done, with the number of the first of their records; or why not. The records that the rig had are there still, and those behind them are the call's.
-- The rig is opened at most once, by the name, and no count falls. Where nothing is at fault in text and image, want of memory alone refuses, or a fault of the rig as the image is opened.
pub record HasCome (result : Result Played Refusal) (f : Facts) : Type 0 where
  pub verdict : MatchResult result (λ p. HasPlayed p f) (λ r. CauseNotPlayed r f)
  pub logged : IfOk result (λ p. AreLogged p f.rig_after.log)
  pub since : IfOk result (λ p. f.rig_after.log ≡ f.rig.log ++ drop (first_of p) f.rig_after.log)
  pub opens : OpenedOnce f.name f.rig.standing f.rig_after.standing
  pub count : f.rig.faults ≤ f.rig_after.faults
  pub reads : f.reads ≤ f.reads_after
  pub list_complete : IfErr result (λ r. ListIsComplete r f)
  pub script_complete : IfErr result (λ r. ScriptIsComplete r f)
