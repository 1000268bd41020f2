use Rattle.std.specs.Prelude.{ℕ, ◌≡◌, ◌+◌, ◌⊎◌, List, length, None, Some, Result, Ok, Err, IsErrAnd, MatchResult}
use Rattle.dix_base.specs.Told.{Calm, Took}
use Rattle.fault_marks.specs.Entries.{misfit_text}
use Rattle.fault_marks.specs.Texts.{marked_text}
use Rattle.rig_api.specs.Head.{head_fault, head_of}
use Rattle.rig_api.specs.Log.{LogEntry}
use Rattle.rig_api.specs.State.{RigState}
use Rattle.script_text.specs.Bindings.{binding_fault}
use Rattle.script_text.specs.Language.{script_in}
use Rattle.script_text.specs.declared.fault.ScriptFault.{ScriptFault}
use Rattle.script_text.specs.declared.script.Script.{Script}
use Rattle.run_command.specs.Verdict.{CauseRefused, CauseStopped, Facts, HasBadVolume, HasRead, HasRun, IsFromOutside, IsUnbound, devices_of, table_over}
use Rattle.call_refusal.specs.declared.refusal.Refusal.{Refusal}
use Rattle.call_refusal.specs.declared.refusal.Refusal.TheVariants as refusal
use Rattle.dix_base.specs.Reading.{IsWhole, most_bytes}
use Rattle.volume_table.specs.Faults.{table_fault}
use Rattle.volume_table.specs.declared.fault.VolumeKind.{VolumeKind}
use Rattle.volume_table.specs.Places.{volume_len}
use Rattle.run_words.specs.Ledgers.{IsKept, LieInside, book_in}
use Rattle.run_words.specs.Lies.{book_of}
use Rattle.run_words.specs.Sites.{Guides, IsGuideOf}
use Rattle.run_words.specs.declared.explain.Explained.{Explained}
use Rattle.run_words.specs.declared.explain.Unexplained.{Unexplained}
use Rattle.run_words.specs.declared.explain.Unexplained.TheVariants.{Marked, Misfit, Refused}

-- What a call comes to that runs a script to explain it.

-- The ledger knows the records of the run, and each block of its requests lies in the volume.
pub record IsReady (e : Explained) (log : List LogEntry) : Type 0 where
  pub kept : IsKept e.ledger log
  pub since : e.ledger.first ≡ e.run.first
  pub inside : LieInside (volume_len e.guide.entries) e.ledger.asked.items

-- The script was run over the image of this name, and guide and ledger are those of the script.
pub record WasExplained (e : Explained) (script : Script) (name : List ℕ) (old new : RigState) : Type 0 where
  pub ran : HasRun e.run script name old new
  pub guided : IsGuideOf script e.guide
  pub guides : Guides e.guide e.run.stack.replies.items
  pub booked : book_in e.ledger ≡ book_of script
  pub ready : IsReady e new.log

-- The source was read to its end, and its script was run and is explained.
pub record HasExplained (e : Explained) (f : Facts) : Type 0 where
  pub script : Script
  pub read : HasRead script f.left f.left_after f.reads f.reads_after
  pub explained : WasExplained e script f.name f.rig f.rig_after

-- The source gave this text, whose first fault this is, and was then at its end, or gave one byte more than a script may have. The rig is as before.
pub record HasFaultyText (text : List ℕ) (bad : ScriptFault) (f : Facts) : Type 0 where
  pub taken : IsWhole text f.left f.left_after ⊎ (Took text f.left f.left_after × (length text ≡ most_bytes + 1))
  pub reads : script_in text ≡ Err bad
  pub rig : f.rig_after ≡ f.rig

-- The source gave this text of a script and was then at its end, and no call of it failed. The image was opened, its devices told what they are, and the script has this fault over its volume, the first.
pub record HasUnboundText (text : List ℕ) (bad : ScriptFault) (f : Facts) : Type 0 where
  pub script : Script
  pub whole : IsWhole text f.left f.left_after
  pub reads : script_in text ≡ Ok script
  pub calm : f.reads_after ≡ f.reads
  pub unbound : IsUnbound bad script f.name f.rig f.rig_after

abbrev pub IsAtFault : (text : List ℕ) → ScriptFault → Facts → Type 0
IsAtFault text bad f = HasFaultyText text bad f ⊎ HasUnboundText text bad f

-- The script is at fault, in its text or over its volume, and this marks it there.
pub record HasMarked (said : List ℕ) (f : Facts) : Type 0 where
  pub text : List ℕ
  pub bad : ScriptFault
  pub fault : IsAtFault text bad f
  pub marks : said ≡ marked_text text bad

-- The source gave this text of a script and was then at its end, and no call of it failed. An entry of the script's volume is at fault over the image's devices, the first, and this marks it in the text.
pub record HasMisfit (said : List ℕ) (f : Facts) : Type 0 where
  pub text : List ℕ
  pub script : Script
  pub whole : IsWhole text f.left f.left_after
  pub reads : script_in text ≡ Ok script
  pub calm : f.reads_after ≡ f.reads
  pub entry : ℕ
  pub kind : VolumeKind
  pub bad : HasBadVolume entry kind script f.name f.rig f.rig_after
  pub marks : said ≡ misfit_text text entry kind

-- why a call comes to no run, but for a script or a volume at fault
abbrev pub CauseNotRun : Refusal → Facts → Type 0
CauseNotRun (refusal.Script bad) f = ⊥
CauseNotRun (refusal.Volume entry kind) f = ⊥
CauseNotRun why f = CauseRefused why f

-- why nothing is explained
abbrev pub CauseUnexplained : Unexplained → Facts → Type 0
CauseUnexplained (Marked said) f = HasMarked said.items f
CauseUnexplained (Misfit said) f = HasMisfit said.items f
CauseUnexplained (Refused r) f = CauseNotRun r f

-- Of a text and its script over an image: the script's fault over its volume is marked, or it comes to no run otherwise.
pub record MarksUnbound (said : List ℕ) (text : List ℕ) (script : Script) (name : List ℕ) (old new : RigState) : Type 0 where
  pub bad : ScriptFault
  pub unbound : IsUnbound bad script name old new
  pub marks : said ≡ marked_text text bad

-- The fault of an entry of its volume is marked.
pub record MarksMisfit (said : List ℕ) (text : List ℕ) (script : Script) (name : List ℕ) (old new : RigState) : Type 0 where
  pub entry : ℕ
  pub kind : VolumeKind
  pub bad : HasBadVolume entry kind script name old new
  pub marks : said ≡ misfit_text text entry kind

abbrev pub CauseHalted : Refusal → Script → List ℕ → RigState → RigState → Type 0
CauseHalted (refusal.Script bad) script name old new = ⊥
CauseHalted (refusal.Volume entry kind) script name old new = ⊥
CauseHalted why script name old new = CauseStopped why script name old new

abbrev pub CauseUnrun : Unexplained → (text : List ℕ) → Script → List ℕ → RigState → RigState → Type 0
CauseUnrun (Marked said) text script name old new = MarksUnbound said.items text script name old new
CauseUnrun (Misfit said) text script name old new = MarksMisfit said.items text script name old new
CauseUnrun (Refused r) text script name old new = CauseHalted r script name old new

abbrev pub ComesFromOutside : Unexplained → Type 0
ComesFromOutside (Marked said) = ⊥
ComesFromOutside (Misfit said) = ⊥
ComesFromOutside (Refused r) = IsFromOutside r

-- A text of the language, an image whose head is right, over whose devices script and volume have no fault, and no fault of the source: then nothing in them is refused or marked.
abbrev pub IsComplete : Unexplained → Facts → Type 0
IsComplete u f =
    (text image : List ℕ) (script : Script) → f.left ≡ Some text → script_in text ≡ Ok script → f.rig.image ≡ Some image → head_fault (head_of image) ≡ None → table_fault script.entries (devices_of image) script.block ≡ None →
    binding_fault script (table_over script.entries (devices_of image)) (devices_of image) ≡ None → Calm f.reads f.reads_after → ComesFromOutside u

-- it is said, or there is no memory
abbrev pub IsSaid : Unexplained → List ℕ → Type 0
IsSaid (Marked said) text = said.items ≡ text
IsSaid (Misfit said) text = ⊥
IsSaid (Refused r) text = r ≡ refusal.Memory

-- the same of an entry of a volume
abbrev pub IsMisfitSaid : Unexplained → List ℕ → Type 0
IsMisfitSaid (Marked said) text = ⊥
IsMisfitSaid (Misfit said) text = said.items ≡ text
IsMisfitSaid (Refused r) text = r ≡ refusal.Memory

-- what is made of a refusal: the fault of a script or of its volume is marked
abbrev pub IsHaltOf : Refusal → Unexplained → (text : List ℕ) → Type 0
IsHaltOf (refusal.Script bad) u text = IsSaid u (marked_text text bad)
IsHaltOf (refusal.Volume entry kind) u text = IsMisfitSaid u (misfit_text text entry kind)
IsHaltOf r u text = u ≡ Refused r

-- Of a text that reads so: its script was run or comes to no run, or its fault is marked; then the rig is as before, and so it is for want of memory at the text.
abbrev pub ExplainsRead : Result Script ScriptFault → Result Explained Unexplained → (text name : List ℕ) → RigState → RigState → Type 0
ExplainsRead (Ok script) result text name old new = MatchResult result (λ e. WasExplained e script name old new) (λ u. CauseUnrun u text script name old new)
ExplainsRead (Err bad) result text name old new = (new ≡ old) × IsErrAnd result (λ u. IsSaid u (marked_text text bad))

abbrev pub ExplainsText : Result Explained Unexplained → (text name : List ℕ) → RigState → RigState → Type 0
ExplainsText result text name old new = ((result ≡ Err (Refused refusal.Memory)) × (new ≡ old)) ⊎ ExplainsRead (script_in text) result text name old new
