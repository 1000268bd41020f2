-- Two lists made alike are the same.
use Rattle.std.proofs.Common.{ℕ, ◌≤◌, ◌<◌, ◌+◌, ◌≡◌, zero, refl, suc, ap, ◌∷◌, arith, ◌∙◌}
use Rattle.walk_laws.specs.Steps.{each_from}

pub each_same : {X : Type 0} (k n : ℕ) (f g : ℕ → X) → ((q : ℕ) → k ≤ q → q < k + n → f q ≡ g q) → each_from k n f ≡ each_from k n g
each_same k zero f g h = refl
each_same k (suc n) f g h = ap (λ x. x ∷ each_from (suc k) n f) (h k (omega arith) (omega arith)) ∙ ap (λ l. g k ∷ l) (each_same (suc k) n f g (λ q a b. h q (omega arith) (omega arith)))
