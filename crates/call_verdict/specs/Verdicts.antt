use Rattle.std.specs.Prelude.{ℕ, ◌≡◌, ◌⊎◌, Bool, if◌then◌else◌, List, Option, Result, Ok, Err}
use Rattle.dix_base.specs.Told.{Appended, AppendedSome, Calm, Rose}
use Rattle.call_refusal.specs.declared.refusal.Refusal.{Refusal as Stop}
use Rattle.call_refusal.specs.declared.refusal.Refusal.TheVariants as stop
use Rattle.call_verdict.specs.declared.status.Status.{Status}
use Rattle.call_verdict.specs.declared.status.Status.TheVariants as status

-- the status of a call on an image that comes to nothing, or of a text
abbrev pub stop_status : Stop → Status
stop_status (stop.Script fault) = status.Input
stop_status (stop.Image fault) = status.Image
stop_status (stop.BadCapacity dev) = status.Image
stop_status (stop.Volume entry kind) = status.Image
stop_status stop.RigFault = status.RigFault
stop_status stop.Memory = status.Memory
stop_status stop.ReadFault = status.ReadFault

-- the status of a command that was done, by whether something failed or was found in it
abbrev pub done_status : Bool → Status
done_status bad = if bad then status.SomeBad else status.Whole

-- ---- statuses

-- The command was done, and its text was written.
abbrev pub IsRun : Status → Type 0
IsRun s = (s ≡ status.Whole) ⊎ (s ≡ status.SomeBad)

-- That, or want of memory.
abbrev pub RunsOrWants : Status → Type 0
RunsOrWants s = IsRun s ⊎ (s ≡ status.Memory)

-- That, or want of memory, or a fault of the rig as the image is opened.
abbrev pub RunsOrFails : Status → Type 0
RunsOrFails s = IsRun s ⊎ (s ≡ status.Memory) ⊎ (s ≡ status.RigFault)

-- Status 0, or want of memory.
abbrev pub WholeOrWants : Status → Type 0
WholeOrWants s = (s ≡ status.Whole) ⊎ (s ≡ status.Memory)

-- ---- what a command comes to

-- A program: what a call of it speaks of, why it refuses a call, and the status and the text of a refusal.
pub record Program : Type 1 where
  pub Facts : Type 0
  pub Refusal : Type 0
  pub status_of : Refusal → Status
  pub text_of : Refusal → List ℕ

-- What a command of a program comes to.
pub record Work (P : Program) : Type 1 where
  -- what it yields where it was done, what that means, and its status and text
  pub Yield : Type 0
  pub WasDone : Yield → P.Facts → Type 0
  pub status : Yield → Status
  pub text : Yield → List ℕ
  -- why it is refused
  pub WasRefused : P.Refusal → P.Facts → Type 0
  -- the statuses that it gives to what is told of its images and its source, if the sink doesn't fail
  pub Answers : P.Facts → Status → Type 0

-- what a call comes to, before it writes the text
pub data Verdict (R Y : Type 0) : Type 0 where
  Refused : R → Verdict R Y
  Done : Y → Verdict R Y

-- the status of a verdict
abbrev pub verdict_status : (P : Program) → (w : Work P) → Verdict P.Refusal w.Yield → Status
verdict_status P w (Refused r) = P.status_of r
verdict_status P w (Done x) = w.status x

-- the text of a verdict
abbrev pub verdict_text : (P : Program) → (w : Work P) → Verdict P.Refusal w.Yield → List ℕ
verdict_text P w (Refused r) = P.text_of r
verdict_text P w (Done x) = w.text x

-- The command was done, or it was refused, with its cause.
abbrev pub Cause : (P : Program) → (w : Work P) → Verdict P.Refusal w.Yield → P.Facts → Type 0
Cause P w (Refused r) f = w.WasRefused r f
Cause P w (Done x) f = w.WasDone x f

-- The text was written whole, the sink's count of faults stayed, and the status is the verdict's; or the sink failed, and a prefix of the text was written.
abbrev pub Written : Status → List ℕ → Option (List ℕ) → Option (List ℕ) → ℕ → ℕ → Status → Type 0
Written verdict text old new o n result =
    ((result ≡ verdict) × Appended text old new × (n ≡ o)) ⊎ ((result ≡ status.WriteFault) × Rose o n × AppendedSome text old new)

-- Unless the sink failed, it has passed on all that it took.
abbrev pub IsPassedOn : Status → (passed taken : Option (List ℕ)) → Type 0
IsPassedOn result passed taken = (result ≡ status.WriteFault → ⊥) → passed ≡ taken

-- The command came to a verdict, whose cause holds, and then its text was written. Where the sink failed all that holds of the verdict holds still.
pub record EndedAs (P : Program) (w : Work P) (f : P.Facts) (old new : Option (List ℕ)) (o n : ℕ) (result : Status) : Type 0 where
  pub verdict : Verdict P.Refusal w.Yield
  pub cause : Cause P w verdict f
  pub written : Written (verdict_status P w verdict) (verdict_text P w verdict) old new o n result

-- If the sink doesn't fail, the status is one that the command gives to what is told.
abbrev pub IsComplete : (P : Program) → Work P → P.Facts → ℕ → ℕ → Status → Type 0
IsComplete P w f o n result = Calm o n → w.Answers f result

-- What a command's function answers: how it ended, and its text was written; or why it is refused, with nothing written.
abbrev pub Comes : (P : Program) → (w : Work P) → Result Status P.Refusal → P.Facts → (old new : Option (List ℕ)) → (o n : ℕ) → Type 0
Comes P w (Ok s) f old new o n = (x : w.Yield) × w.WasDone x f × Written (w.status x) (w.text x) old new o n s
Comes P w (Err r) f old new o n = w.WasRefused r f × (new ≡ old) × (n ≡ o)
