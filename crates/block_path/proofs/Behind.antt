-- Cells behind the first n, which nobody sees who looks at these alone.
use Rattle.std.proofs.Common.{◌≡◌, ◌≤◌, ℕ, zero, suc, List, [], ◌∷◌, take, set, refl, ap, ◌∙◌, arith}
use Rattle.std.specs.List.{All}
use Rattle.range_gate.specs.Passed.{scatter}

abbrev pub AllFrom : ℕ → List ℕ → Type 0
AllFrom n [] = Unit {0}
AllFrom n (i ∷ is) = (n ≤ i) × AllFrom n is

pub from : (n : ℕ) (is : List ℕ) → All (λ i. n ≤ i) is → AllFrom n is
from n [] h = tt
from n (i ∷ is) h = (h 0 0 (omega arith), from n is (λ k d l. h (suc k) d (omega arith)))

take_behind : {X : Type 0} (n : ℕ) (xs : List X) (i : ℕ) (v : X) → n ≤ i → take n (set xs i v) ≡ take n xs
take_behind zero xs i v l = refl
take_behind (suc n) [] i v l = refl
take_behind (suc n) (x ∷ xs) zero v l = absurd (omega (arith, l))
take_behind (suc n) (x ∷ xs) (suc i) v l = ap (λ rest. x ∷ rest) (take_behind n xs i v (omega (arith, l)))

pub scatter_behind : {X : Type 0} (n : ℕ) (at : List ℕ) (vs cells : List X) → AllFrom n at → take n (scatter at vs cells) ≡ take n cells
scatter_behind n [] vs cells h = refl
scatter_behind n (i ∷ at) [] cells h = refl
scatter_behind n (i ∷ at) (v ∷ vs) cells h = scatter_behind n at vs (set cells i v) h.1 ∙ take_behind n cells i v h.0
