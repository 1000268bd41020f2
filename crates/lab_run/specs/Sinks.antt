use Rattle.std.specs.Prelude.{ℕ, ◌≡◌, List, Option}
use Rattle.dix_base.specs.Told.{Calm}
use Rattle.call_verdict.specs.Verdicts.{Cause, Done, IsPassedOn, Refused, Verdict, Work, Written}
use Rattle.call_verdict.specs.declared.status.Status.{Status}
use Rattle.lab_run.specs.Calls.{Facts}
use Rattle.lab_run.specs.Texts.{lab, refusal_text, status_of}
use Rattle.lab_run.specs.declared.refusal.Refusal.{Refusal}

-- The two sinks of a call: one for the text of a command that was done, the other for the line of a refusal.

-- a sink before and after a call: what it took, what of it it has passed on, and its count of faults
pub record Sunk : Type 0 where
  pub taken : Option (List ℕ)
  pub taken_after : Option (List ℕ)
  pub passed_after : Option (List ℕ)
  pub faults : ℕ
  pub faults_after : ℕ

abbrev pub sunk : (taken taken_after passed_after : Option (List ℕ)) → (faults faults_after : ℕ) → Sunk
sunk taken taken_after passed_after faults faults_after = record { taken = taken; taken_after = taken_after; passed_after = passed_after; faults = faults; faults_after = faults_after }

-- The sink took nothing, and counted no fault.
pub record LeftAlone (s : Sunk) : Type 0 where
  pub taken : s.taken_after ≡ s.taken
  pub faults : s.faults_after ≡ s.faults

-- The sink took this text and nothing else, and has passed on all that it took; or it failed, took a prefix of it, and the status is 8.
pub record Holds (verdict : Status) (text : List ℕ) (s : Sunk) (result : Status) : Type 0 where
  pub written : Written verdict text s.taken s.taken_after s.faults s.faults_after result
  pub handed : IsPassedOn result s.passed_after s.taken_after

-- The text of a command that was done is in the first sink, and the second took nothing; the line of a refusal is in the second, and the first took nothing.
abbrev pub Said : (w : Work lab) → Verdict Refusal w.Yield → (out says : Sunk) → Status → Type 0
Said w (Done x) out says result = Holds (w.status x) (w.text x) out result × LeftAlone says
Said w (Refused r) out says result = Holds (status_of r) (refusal_text r) says result × LeftAlone out

-- The command came to a verdict, whose cause holds, and then its text was written to the sink that it is for. Where that failed all that holds of the verdict holds still.
pub record EndedOver (w : Work lab) (f : Facts) (out says : Sunk) (result : Status) : Type 0 where
  pub verdict : Verdict Refusal w.Yield
  pub cause : Cause lab w verdict f
  pub said : Said w verdict out says result

-- If no sink fails, the status is one that the command gives to what is told.
abbrev pub IsCompleteOver : Work lab → Facts → (out says : Sunk) → Status → Type 0
IsCompleteOver w f out says result = Calm out.faults out.faults_after → Calm says.faults says.faults_after → w.Answers f result
