use Rattle.std.specs.Prelude.{ℕ, ◌≡◌, ◌⊎◌, List, Some}
use Rattle.dix_base.specs.Told.{Calm}
use Rattle.call_verdict.specs.Verdicts.{RunsOrWants}
use Rattle.call_verdict.specs.declared.status.Status.{Status}
use Rattle.call_verdict.specs.declared.status.Status.TheVariants as status
use Rattle.lab_run.specs.Calls.{Facts}

-- What a call answers to images and texts that are told.

-- Status 4, or want of memory.
abbrev pub RefusesImage : Status → Type 0
RefusesImage s = (s ≡ status.Image) ⊎ (s ≡ status.Memory)

-- Status 3, or want of memory.
abbrev pub RefusesInput : Status → Type 0
RefusesInput s = (s ≡ status.Input) ⊎ (s ≡ status.Memory)

-- No fault was counted of the first store.
abbrev pub IsCalmFirst : Facts → Type 0
IsCalmFirst f = Calm f.first.faults f.first_after.faults

-- No fault was counted of a store.
abbrev pub AreCalmBoth : Facts → Type 0
AreCalmBoth f = Calm f.first.faults f.first_after.faults × Calm f.second.faults f.second_after.faults

-- Over an image that is told, if no store in use fails: where all is right the command is done, and where the image is at fault it is refused for it.
pub record AnswersImage (IsRight IsWrong : Facts → List ℕ → Type 0) (IsCalm : Facts → Type 0) (f : Facts) (s : Status) : Type 0 where
  pub right : (image : List ℕ) → f.first.bytes ≡ Some image → IsRight f image → IsCalm f → RunsOrWants s
  pub wrong : (image : List ℕ) → f.first.bytes ≡ Some image → IsWrong f image → IsCalm f → RefusesImage s
