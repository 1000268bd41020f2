-- The label of a block of a command.
use Rattle.std.proofs.Common.{◌≡◌, ℕ, zero, suc, List, [], ◌∷◌, drop, ap, Option, Some, None}
use Rattle.std.specs.Prelude.{slice_get}
use Rattle.fault_schedule.specs.declared.Label.{Label}

pub label-at : (k : ℕ) (ls rest : List Label) (l : Label) → drop k ls ≡ l ∷ rest → (slice_get ls k ≡ Some l) × (drop (suc k) ls ≡ rest)
label-at zero [] rest l e = absurd (cc)
label-at zero (m ∷ ls) rest l e = (ap head e, ap tail e)
  where
    head : List Label → Option Label
    head [] = None
    head (x ∷ xs) = Some x

    tail : List Label → List Label
    tail [] = []
    tail (x ∷ xs) = xs
label-at (suc k) [] rest l e = absurd (cc)
label-at (suc k) (m ∷ ls) rest l e = label-at k ls rest l e
