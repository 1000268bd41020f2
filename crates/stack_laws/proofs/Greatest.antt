-- The greatest number that passes.
use Rattle.std.proofs.Common.{◌≡◌, ℕ, zero, suc, ◌≤◌, Bool, true, false, sym, ◌∙◌, ⊎_elim, arith}
use Rattle.std.proofs.lemmas.Bool.{cases_Bool, cases_eq}
use Rattle.stack_laws.specs.Pieces.{greatest}
use Rattle.stack_laws.proofs.Keeps.{greatest-within}

passes : (test : ℕ → Bool) → test 1 ≡ true → (n : ℕ) → test (greatest test n) ≡ true
passes test t zero = t
passes test t (suc n) =
    let e = passes test t n in
    ⊎_elim (λ (z : test (suc n) ≡ true). rw z z) (λ (z : test (suc n) ≡ false). rw z e) (cases_Bool (test (suc n)))

pub greatest-passes : (test : ℕ → Bool) (n : ℕ) → 1 ≤ n → test 1 ≡ true → (greatest test n ≤ n) × (test (greatest test n) ≡ true)
greatest-passes test n l t = (greatest-within test n n (omega arith) l, passes test t n)

pub greatest-is : (test : ℕ → Bool) (n m : ℕ) → m ≤ n → test m ≡ true → m ≤ greatest test n
greatest-is test zero m l t = omega arith
greatest-is test (suc n) m l t =
    ⊎_elim
    (λ (z : test (suc n) ≡ true). rw z l)
    (λ (z : test (suc n) ≡ false). rw z
    (⊎_elim
    (λ (e : m ≡ suc n). let f : true ≡ false = sym t ∙ rw e z in cc)
    (λ (ne : m ≡ suc n → ⊥). greatest-is test n m (omega arith) t)
    (cases_eq m (suc n))))
    (cases_Bool (test (suc n)))
