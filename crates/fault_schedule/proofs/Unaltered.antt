-- Without fault lines a frame is as it was.
use Rattle.fault_schedule.specs.declared.fault.Crossing.{Crossing}
use Rattle.fault_schedule.specs.declared.Label.{Label}
use Rattle.std.proofs.Common.{ℕ, List, [], ◌≡◌, refl, ◌∷◌, ◌+◌}
use Rattle.fault_schedule.specs.Altered.{xored_from, named, altered}
use lib.Bits.{xor_zero_r}

-- nothing is altered
pub xored_none : (at : Crossing) (label : Label) (i : ℕ) (xs : List ℕ) → xored_from (named [] at label) i xs ≡ xs
xored_none at label i [] = refl
xored_none at label i (x ∷ xs) = let rest = xored_none at label (i + 1) xs in let first = xor_zero_r x in cc

pub altered_none : (at : Crossing) (label : Label) (frame : List ℕ) → altered [] at label frame ≡ frame
altered_none at label frame = xored_none at label 0 frame
