-- A list of what each place gives, from a later place on.
use Rattle.std.proofs.Common.{◌≡◌, ℕ, zero, suc, ◌+◌, ◌∷◌, refl, ap, ◌∙◌, arith}
use Rattle.walk_laws.specs.Steps.{each_from}

pub each_shift : {X : Type 0} (k a b : ℕ) (f : ℕ → X) → each_from (k + a) b f ≡ each_from k b (λ j. f (a + j))
each_shift k a zero f = refl
each_shift k a (suc b) f =
    let e : suc (k + a) ≡ suc k + a = omega arith in
    let c : k + a ≡ a + k = omega arith in
    ap (λ j. f (k + a) ∷ each_from j b f) e ∙ ap (λ j. f j ∷ each_from (suc k + a) b f) c ∙ ap (λ xs. f (a + k) ∷ xs) (each_shift (suc k) a b f)
