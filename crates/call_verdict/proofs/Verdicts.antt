-- A call comes to its end, and what follows from that.
use Rattle.std.proofs.Common.{ℕ, ◌≡◌, inl, inr, Bool, true, false, List, Option, refl, sym, subst}
use Rattle.dix_base.specs.Told.{Calm}
use Rattle.dix_base.proofs.Counts.{never_rose}
use Rattle.call_verdict.specs.Verdicts.{Cause, Done, EndedAs, IsComplete, IsRun, Program, Refused, Verdict, Work, Written, done_status, verdict_status, verdict_text}
use Rattle.call_verdict.specs.declared.status.Status.{Status}

-- ---- a command came to its end: it was done, or refused

pub done : (P : Program) (w : Work P) (x : w.Yield) (f : P.Facts) (old new : Option (List ℕ)) (o n : ℕ) (result : Status) → w.WasDone x f → Written (w.status x) (w.text x) old new o n result → EndedAs P w f old new o n result
done P w x f old new o n result cause written = record { verdict = Done x; cause = cause; written = written }

pub refused : (P : Program) (w : Work P) (r : P.Refusal) (f : P.Facts) (old new : Option (List ℕ)) (o n : ℕ) (result : Status) → w.WasRefused r f → Written (P.status_of r) (P.text_of r) old new o n result → EndedAs P w f old new o n result
refused P w r f old new o n result cause written = record { verdict = Refused r; cause = cause; written = written }

-- ---- what follows

pub done_is : (bad : Bool) → IsRun (done_status bad)
done_is true = inr refl
done_is false = inl refl

-- where the sink had no fault the status is the verdict's
pub as_written : (P : Program) (w : Work P) (v : Verdict P.Refusal w.Yield) (old new : Option (List ℕ)) (o n : ℕ) (result : Status) → Calm o n → Written (verdict_status P w v) (verdict_text P w v) old new o n result → result ≡ verdict_status P w v
as_written P w v old new o n result c (inl e) = e.0
as_written P w v old new o n result c (inr e) = absurd (never_rose o n c e.1)

-- a command whose verdicts are all among its answers
pub completed : (P : Program) (w : Work P) (f : P.Facts) (old new : Option (List ℕ)) (o n : ℕ) (result : Status) → ((v : Verdict P.Refusal w.Yield) → Cause P w v f → w.Answers f (verdict_status P w v)) → EndedAs P w f old new o n result → IsComplete P w f o n result
completed P w f old new o n result each ended = λ calm. subst (w.Answers f) (sym (as_written P w ended.verdict old new o n result calm ended.written)) (each ended.verdict ended.cause)
