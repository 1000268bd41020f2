-- All lines have a form where as many stand before the first without it as there are.
use Rattle.std.proofs.Common.{◌≡◌, ◌+◌, ◌&&◌, Bool, true, false, not, cond, ℕ, zero, suc, List, [], ◌∷◌, length, nat_eq, refl, sym, ap, ◌∙◌, arith}
use Rattle.std.proofs.lemmas.Bool.Decides.{nat_tests}
use Rattle.std.specs.List.{list_all, prefix_len}
use Rattle.fault_schedule.specs.declared.fault.FaultLine.{FaultLine}

one_more : (b : Bool) (n m : ℕ) → nat_eq (cond b (1 + n) 0) (suc m) ≡ (b && nat_eq n m)
one_more true n m = grind (arith, nat_tests)
one_more false n m = grind (arith, nat_tests)

all_before : (p : FaultLine → Bool) (xs : List FaultLine) → nat_eq (prefix_len p xs) (length xs) ≡ list_all p xs
all_before p [] = refl
all_before p (x ∷ xs) = one_more (p x) (prefix_len p xs) (length xs) ∙ ap (λ b. p x && b) (all_before p xs)

module _ (p : FaultLine → Bool) (xs : List FaultLine) (n : ℕ) (us : List FaultLine) (counted : n ≡ prefix_len p xs) (same : us ≡ xs) where
  told : nat_eq n (length us) ≡ list_all p xs
  told = ap (λ k. nat_eq k (length us)) counted ∙ ap (λ l. nat_eq (prefix_len p xs) (length l)) same ∙ all_before p xs

  pub where_all : (o : Bool) → nat_eq n (length us) ≡ true → not o ≡ (list_all p xs && not o)
  where_all o e = sym (ap (λ b. b && not o) (sym told ∙ e))

  pub where_fewer : (o : Bool) → nat_eq n (length us) ≡ false → nat_eq n (length us) ≡ (list_all p xs && not o)
  where_fewer o e = e ∙ sym (ap (λ b. b && not o) (sym told ∙ e))
