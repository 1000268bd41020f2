use Rattle.std.specs.Prelude.{ℕ, ◌≡◌, ◌⊎◌, ◌+◌, ◌≤◌, ◌&&◌, Bool, true, false, nat_le, List, length, Option, Some, Result, Ok, Err, IfOk, MatchResult}
use Rattle.std.specs.declared.alloc.AllocError.{AllocError}
use Rattle.dix_base.specs.Told.{Calm, IsAtEnd, Rose, Took}
use Rattle.call_refusal.specs.declared.refusal.Refusal.TheVariants as stop
use Rattle.call_verdict.specs.Verdicts.{Work}
use Rattle.call_verdict.specs.declared.status.Status.{Status}
use Rattle.call_verdict.specs.declared.status.Status.TheVariants as status
use Rattle.fault_marks.specs.Lists.{list_text}
use Rattle.fault_marks.specs.Texts.{marked_text, right_text}
use Rattle.run_words.specs.Vectors.{vectors_text}
use Rattle.script_words.specs.Cuts.{lines_of}
use Rattle.vector_lines.specs.Texts.{is_list, list_in}
use Rattle.vector_lines.specs.declared.line.VectorLine.{VectorLine}
use Rattle.script_text.specs.Language.{script_in}
use Rattle.script_text.specs.declared.fault.ScriptFault.{ScriptFault}
use Rattle.script_text.specs.declared.script.Script.{Script}
use Rattle.dix_base.specs.Reading.{IsWhole, TookAtMost, most_bytes}
use Rattle.dix_base.specs.declared.reading.TheConstants.{MOST_BYTES}
use Rattle.lab_run.specs.Calls.{Facts}
use Rattle.lab_run.specs.Texts.{lab}
use Rattle.lab_run.specs.declared.judging.Said.{Said}
use Rattle.lab_run.specs.declared.refusal.Refusal.{Refusal}
use Rattle.lab_run.specs.declared.refusal.Refusal.TheVariants as refusal

-- ---- explain: what the script or the list of the source holds was told, or its first fault was marked

-- what a text is and reads as: a script, or a list of commands
pub data Reads : Type 0 where
  AsScript : Result Script ScriptFault → Reads
  AsList : Result (List VectorLine) ScriptFault → Reads

-- A list of commands, which begins with its own first line, and isn't too long; any other text is read as a script.
abbrev pub is_short_list : List ℕ → Bool
is_short_list text = nat_le (length text) MOST_BYTES && is_list (lines_of text)

abbrev pub reads_by : (as_list : Bool) → (text : List ℕ) → Reads
reads_by true text = AsList (list_in text)
reads_by false text = AsScript (script_in text)

abbrev pub reads_of : List ℕ → Reads
reads_of text = reads_by (is_short_list text) text

-- a text, and what it reads as
pub record Judged : Type 0 where
  pub text : List ℕ
  pub reads : Reads

-- the status of a text that reads so
abbrev pub judged_status : Reads → Status
judged_status (AsScript (Ok script)) = status.Whole
judged_status (AsScript (Err bad)) = status.Input
judged_status (AsList (Ok lines)) = status.Whole
judged_status (AsList (Err bad)) = status.Input

-- what is written of it: the counts of a right script, the commands of a right list, or the text with its first fault marked
abbrev pub judged_text : (text : List ℕ) → Reads → List ℕ
judged_text text (AsScript (Ok script)) = right_text script
judged_text text (AsScript (Err bad)) = marked_text text bad
judged_text text (AsList (Ok lines)) = vectors_text lines
judged_text text (AsList (Err bad)) = list_text text bad

-- The source gave the text and was then at its end; of what is no script it may have given no more than one byte more than a script may have.
abbrev pub IsGiven : (text : List ℕ) → Reads → (left left_after : Option (List ℕ)) → Type 0
IsGiven text (AsScript (Err bad)) left left_after = Took text left left_after × (IsAtEnd left_after ⊎ (length text ≡ most_bytes + 1))
IsGiven text reads left left_after = IsWhole text left left_after

-- The source gave this text, which reads so.
pub record WasJudged (x : Judged) (left left_after : Option (List ℕ)) : Type 0 where
  pub given : IsGiven x.text x.reads left left_after
  pub reads : reads_of x.text ≡ x.reads

-- Why a source gives no text to be judged, and what is left then.
abbrev pub CauseUnread : Refusal → (left left_after : Option (List ℕ)) → (reads reads_after : ℕ) → Type 0
CauseUnread (refusal.Stopped stop.ReadFault) left left_after reads reads_after = Rose reads reads_after × TookAtMost most_bytes left left_after
CauseUnread (refusal.Stopped stop.Memory) left left_after reads reads_after = TookAtMost (most_bytes + 1) left left_after
CauseUnread _ left left_after reads reads_after = ⊥

-- A text that is told gives the status of what it reads as, 0 or 3, or want of memory, if the source doesn't fail.
abbrev pub JudgesText : Facts → Status → Type 0
JudgesText f s = (text : List ℕ) → f.left ≡ Some text → Calm f.reads f.reads_after → (s ≡ judged_status (reads_of text)) ⊎ (s ≡ status.Memory)

-- its record
abbrev pub judge_work : Work lab
judge_work = record {
  Yield = Judged;
  WasDone = λ x f. WasJudged x f.left f.left_after;
  status = λ x. judged_status x.reads;
  text = λ x. judged_text x.text x.reads;
  WasRefused = λ r f. CauseUnread r f.left f.left_after f.reads f.reads_after;
  Answers = JudgesText;
}

-- ---- what its parts hand on

-- What is said of a text that reads so.
abbrev pub Says : Reads → (text : List ℕ) → Result Said AllocError → Type 0
Says reads text said = IfOk said (λ s. (s.status ≡ judged_status reads) × (s.text.items ≡ judged_text text reads))

-- The source gave a text, of which this is said.
pub record IsSaid (s : Said) (left left_after : Option (List ℕ)) : Type 0 where
  pub judged : Judged
  pub was : WasJudged judged left left_after
  pub status_is : s.status ≡ judged_status judged.reads
  pub text_is : s.text.items ≡ judged_text judged.text judged.reads

-- A text of the source was judged; or it gave none, for a cause, or there was no memory. No count falls.
pub record Judges (result : Result Said Refusal) (left left_after : Option (List ℕ)) (reads reads_after : ℕ) : Type 0 where
  pub came : MatchResult result (λ s. IsSaid s left left_after) (λ r. CauseUnread r left left_after reads reads_after)
  pub count : reads ≤ reads_after
