use Rattle.std.specs.Prelude.{ℕ, ◌≡◌, ◌+◌, ◌⊎◌, true, false, if◌then◌else◌, List, Option, Some, None, Result, Ok, Err}
use Rattle.dix_base.specs.Told.{Rose}
use Rattle.script_lines.specs.declared.kind.ScriptKind.TheVariants.{TooMany}
use Rattle.script_text.specs.Language.{script_in}
use Rattle.script_text.specs.declared.fault.ScriptFault.{ScriptFault}
use Rattle.script_text.specs.declared.script.Script.{Script}
use Rattle.run_command.specs.Working.{IsSound}
use Rattle.call_refusal.specs.declared.refusal.Refusal.{Refusal}
use Rattle.call_refusal.specs.declared.refusal.Refusal.TheVariants as refusal
use Rattle.script_words.specs.Cuts.{lines_of}
use Rattle.dix_base.specs.Reading.{IsOver, IsWhole, TookAtMost, most_bytes}
use Rattle.vector_lines.specs.Texts.{is_list, list_in}
use Rattle.vector_lines.specs.declared.line.VectorLine.{VectorLine}
use Rattle.vector_runs.specs.Unplayed.{unplayed}
use Rattle.vector_runs.specs.declared.wanted.Wanted.{Wanted}
use Rattle.vector_runs.specs.declared.wanted.Wanted.TheVariants as wanted

-- A text whose commands are wanted: a list where its first line that isn't skipped is dix vectors 1, else a script.

abbrev pub list_fault : Result (List VectorLine) ScriptFault → Option ScriptFault
list_fault (Ok lines) = None
list_fault (Err f) = Some f

abbrev pub script_fault : Result Script ScriptFault → Option ScriptFault
script_fault (Ok script) = unplayed script
script_fault (Err f) = Some f

-- the first fault of a text: of a list, or of a script, or that script's first line that has no vectors
abbrev pub text_fault : List ℕ → Option ScriptFault
text_fault text = if is_list (lines_of text) then list_fault (list_in text) else script_fault (script_in text)

-- What a text without a fault holds.
abbrev pub Holds : Wanted → List ℕ → Type 0
Holds (wanted.Lines lines) text = (is_list (lines_of text) ≡ true) × (list_in text ≡ Ok lines.items)
Holds (wanted.Script script) text = (is_list (lines_of text) ≡ false) × (script_in text ≡ Ok script) × (unplayed script ≡ None)

-- Why a text gives nothing: it has this fault, or there is no memory.
abbrev pub CauseNotHeld : Refusal → List ℕ → Type 0
CauseNotHeld r text = (r ≡ refusal.Memory) ⊎ ((bad : ScriptFault) × (r ≡ refusal.Script bad) × (text_fault text ≡ Some bad))

-- A script that was read keeps the rules of its language.
abbrev pub KeepsRules : Wanted → Type 0
KeepsRules (wanted.Lines lines) = Unit {0}
KeepsRules (wanted.Script script) = IsSound script

-- The source was read to its end, and no call of it failed; what it held is a list of these lines.
pub record HoldsList (lines : List VectorLine) (old new : Option (List ℕ)) (o n : ℕ) : Type 0 where
  pub text : List ℕ
  pub whole : IsWhole text old new
  pub list : is_list (lines_of text) ≡ true
  pub reads : list_in text ≡ Ok lines
  pub calm : n ≡ o

-- The source was read to its end, and no call of it failed; what it held is the text of this script, each of whose lines has vectors.
pub record HoldsScript (script : Script) (old new : Option (List ℕ)) (o n : ℕ) : Type 0 where
  pub text : List ℕ
  pub whole : IsWhole text old new
  pub script_is : is_list (lines_of text) ≡ false
  pub reads : script_in text ≡ Ok script
  pub plays : unplayed script ≡ None
  pub calm : n ≡ o

abbrev pub HasTaken : Wanted → Option (List ℕ) → Option (List ℕ) → ℕ → ℕ → Type 0
HasTaken (wanted.Lines lines) old new o n = HoldsList lines.items old new o n
HasTaken (wanted.Script script) old new o n = HoldsScript script old new o n

-- The source was read to its end, and this is the first fault of what it held; or one byte more was taken than a text may have.
abbrev pub HoldsFault : ScriptFault → Option (List ℕ) → Option (List ℕ) → Type 0
HoldsFault f old new = ((text : List ℕ) × IsWhole text old new × (text_fault text ≡ Some f)) ⊎ (IsOver old new × (f ≡ record { line = 0; kind = TooMany }))

-- Why a source gives nothing: what it held has a fault, there is no memory, or the source failed.
abbrev pub CauseNotTaken : Refusal → Option (List ℕ) → Option (List ℕ) → ℕ → ℕ → Type 0
CauseNotTaken (refusal.Script bad) old new o n = HoldsFault bad old new
CauseNotTaken refusal.Memory old new o n = TookAtMost (most_bytes + 1) old new
CauseNotTaken refusal.ReadFault old new o n = Rose o n × TookAtMost most_bytes old new
CauseNotTaken _ old new o n = ⊥
