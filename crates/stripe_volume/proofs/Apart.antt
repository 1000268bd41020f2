-- Legs that share no block, by the test of each two.
use Rattle.std.proofs.Common.{◌≡◌, ℕ, zero, suc, ◌+◌, ◌<◌, ◌≤◌, ◌↔◌, Bool, true, false, not, ◌||◌, IsTrue, List, [], ◌∷◌, length, get_or, max, ◌⊎◌, inl, inr, refl, sym, ◌∙◌, arith}
use Rattle.std.specs.List.{list_any}
use Rattle.std.proofs.lemmas.Bool.Decides.{nat_tests}
use Rattle.std.proofs.lemmas.Bool.{or_parts, or_cases, not-true}
use Rattle.stripe_volume.specs.declared.legs.Leg.{Leg}
use Rattle.stripe_volume.specs.declared.stripe.Stripe.{Stripe}
use Rattle.stripe_volume.specs.Stripes.{AreApart, LegHas, any_shared, do_share, is_apart, leg, leg_len}

-- an element that passes, where one does
any_at : {X : Type 0} (p : X → Bool) (d : X) (xs : List X) → list_any p xs ≡ true → (k : ℕ) × (k < length xs) × (p (get_or xs k d) ≡ true)
any_at p d [] h = absurd (cc)
any_at p d (x ∷ xs) h =
    elim (or_cases (p x) (list_any p xs) h) [
      | inl e ↦ (0, omega arith, e)
      | inr e ↦ let r = any_at p d xs e in (suc r.0, omega (arith, r.1), r.2)
    ]

-- no element does
none_at : {X : Type 0} (p : X → Bool) (d : X) (xs : List X) → list_any p xs ≡ false → (k : ℕ) → k < length xs → p (get_or xs k d) ≡ false
none_at p d [] h k lt = absurd (omega arith)
none_at p d (x ∷ xs) h zero lt = (or_parts (p x) (list_any p xs) h).0
none_at p d (x ∷ xs) h (suc k) lt = none_at p d xs (or_parts (p x) (list_any p xs) h).1 k (omega arith)

record SharedAt (n : ℕ) (d : Leg) (xs : List Leg) : Type 0 where
  i : ℕ
  j : ℕ
  order : i < j
  within : j < length xs
  share : do_share n (get_or xs i d) (get_or xs j d) ≡ true

shared_at : (n : ℕ) (d : Leg) (xs : List Leg) → any_shared n xs ≡ true → SharedAt n d xs
shared_at n d [] h = absurd (cc)
shared_at n d (x ∷ xs) h =
    elim (or_cases (list_any (do_share n x) xs) (any_shared n xs) h) [
      | inl e ↦ let r = any_at (do_share n x) d xs e in record { i = 0; j = suc r.0; order = omega arith; within = omega (arith, r.1); share = r.2 }
      | inr e ↦ let r = shared_at n d xs e in record { i = suc r.i; j = suc r.j; order = omega (arith, r.order); within = omega (arith, r.within); share = r.share }
    ]

none_shared : (n : ℕ) (d : Leg) (xs : List Leg) → any_shared n xs ≡ false → (i j : ℕ) → i < j → j < length xs → do_share n (get_or xs i d) (get_or xs j d) ≡ false
none_shared n d [] h i j o w = absurd (omega arith)
none_shared n d (x ∷ xs) h i zero o w = absurd (omega arith)
none_shared n d (x ∷ xs) h zero (suc j) o w = none_at (do_share n x) d xs (or_parts (list_any (do_share n x) xs) (any_shared n xs) h).0 j (omega arith)
none_shared n d (x ∷ xs) h (suc i) (suc j) o w = none_shared n d xs (or_parts (list_any (do_share n x) xs) (any_shared n xs) h).1 i j (omega arith) (omega arith)

-- a block of both
both : (n lba : ℕ) (a b : Leg) → a.dev ≡ b.dev → a.at ≤ lba → lba < a.at + n → b.at ≤ lba → lba < b.at + n → do_share n a b ≡ false → ⊥
both n lba a b e p q r s h = grind (arith, nat_tests)

in_both : (n : ℕ) (a b : Leg) → do_share n a b ≡ true → (a.dev ≡ b.dev) × (a.at < b.at + n) × (b.at < a.at + n)
in_both n a b h = grind (arith, nat_tests)

not_if : (b : Bool) → (b ≡ true → ⊥) → not b ≡ true
not_if true h = absurd (h refl)
not_if false h = refl

no_two : (s : Stripe) → is_apart s ≡ true → (i j dev lba : ℕ) → i < j → LegHas s i dev lba → LegHas s j dev lba → ⊥
no_two s h i j dev lba o x y =
    both (leg_len s) lba (leg s i) (leg s j) (x.1 ∙ sym y.1) x.2 x.3 y.2 y.3
    (none_shared (leg_len s) _ s.legs (not-true (any_shared (leg_len s) s.legs) h) i j o y.0)

-- The test says that no two legs share a block.
pub apart_by_test : (s : Stripe) → is_apart s ≡ true → AreApart s
apart_by_test s h i j dev lba x y =
    let f : i < j → ⊥ = λ o. no_two s h i j dev lba o x y in
    let g : j < i → ⊥ = λ o. no_two s h j i dev lba o y x in
    grind (arith, f, g)

pub test_by_apart : (s : Stripe) → AreApart s → is_apart s ≡ true
test_by_apart s h =
    not_if (any_shared (leg_len s) s.legs)
    (λ e.
    let r = shared_at (leg_len s) (record { dev = 0; at = 0 }) s.legs e in
    let o : r.i < r.j = r.order in
    let w : r.j < length s.legs = r.within in
    let b = in_both (leg_len s) (leg s r.i) (leg s r.j) r.share in
    let lba = max (leg s r.i).at (leg s r.j).at in
    let same : r.i ≡ r.j = h r.i r.j (leg s r.j).dev lba (omega arith, b.0, omega arith, omega (arith, b.1)) (w, refl, omega arith, omega (arith, b.2)) in
    omega arith)

pub decided : (s : Stripe) (b : Bool) → b ≡ is_apart s → IsTrue b ↔ AreApart s
decided s b e = (λ t. apart_by_test s (sym e ∙ t), λ h. e ∙ test_by_apart s h)
