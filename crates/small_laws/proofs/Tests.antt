-- Laws of tests that the standard library lacks.
use Rattle.std.proofs.Common.{false, ◌≡◌, true, arith, Bool, ◌&&◌, refl, sym, ℕ, not, eqb, ap, ltb, suc}
use Rattle.std.proofs.lemmas.Bool.Decides.{nat_tests}
use Rattle.std.proofs.lemmas.Bool.{eq-eqb}

pub never : {A : Type 0} → false ≡ true → A
never h = absurd (grind (arith, h))

pub and_first : (a b : Bool) → a && b ≡ true → a ≡ true
and_first true b h = refl
and_first false b h = h

pub and_second : (a b : Bool) → a && b ≡ true → b ≡ true
and_second true b h = h
and_second false b h = absurd (cc)

pub second_no : (a b c : Bool) → b ≡ false → (a && (b && c)) ≡ false
second_no a b c e = grind arith

pub same_test : (a b : Bool) → (a ≡ true → b ≡ true) → (b ≡ true → a ≡ true) → a ≡ b
same_test true b f g = sym (f refl)
same_test false true f g = g refl
same_test false false f g = refl

pub same_number : (a b : ℕ) → not (eqb a b) ≡ false → a ≡ b
same_number a b h = grind (arith, nat_tests)

pub no_other_number : (a b : ℕ) → a ≡ b → not (eqb a b) ≡ false
no_other_number a b e = ap not (eq-eqb a b e)

pub eqb_self : (n : ℕ) → eqb n n ≡ true
eqb_self n = grind arith

pub ltb_suc : (a b : ℕ) → ltb (suc a) (suc b) ≡ ltb a b
ltb_suc a b = grind (arith, nat_tests)
