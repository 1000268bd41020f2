-- Cells in turn, below and from a bound on; the cells of virtual blocks.
use Rattle.std.proofs.Common.{◌≡◌, ◌<◌, ◌≤◌, ℕ, zero, suc, ◌+◌, ◌-◌, Bool, true, false, ◌||◌, eqb, List, [], ◌∷◌, length, map, refl, ap, arith}
use Rattle.std.proofs.lemmas.Bool.{eq-eqb, eqb-false, eqb-true, false≢true, ne_eqb, or_from, or_parts}
use Rattle.page_pool.specs.Cells.{is_in, share_a_cell}
use Rattle.range_gate.specs.Cells.{in_turn}
use Rattle.walk_laws.proofs.Passed.{AllBelow, Distinct}
use Rattle.run_laws.proofs.Parts.{AllIn, in_tail}

-- each is this one or behind it
abbrev pub AllFrom : ℕ → List ℕ → Type 0
AllFrom n [] = Unit {0}
AllFrom n (i ∷ is) = (n ≤ i) × AllFrom n is

pub from_less : (n k : ℕ) (xs : List ℕ) → k ≤ n → AllFrom n xs → AllFrom k xs
from_less n k [] l h = tt
from_less n k (x ∷ xs) l h = (let o = h.0 in omega (arith, l, o), from_less n k xs l h.1)

pub turn_from : (from n : ℕ) → AllFrom from (in_turn from n)
turn_from from zero = tt
turn_from from (suc n) = (omega arith, from_less (suc from) from (in_turn (suc from) n) (omega arith) (turn_from (suc from) n))

pub turn_below : (from n top : ℕ) → from + n ≤ top → AllBelow top (in_turn from n)
turn_below from zero top l = tt
turn_below from (suc n) top l = (omega (arith, l), turn_below (suc from) n top (omega (arith, l)))

not_from : (n i : ℕ) (xs : List ℕ) → i < n → AllFrom n xs → is_in i xs ≡ false
not_from n i [] l h = refl
not_from n i (x ∷ xs) l h = let o = h.0 in or_from (eqb i x) (is_in i xs) (ne_eqb i x (λ e. omega (arith, e, l, o))) (not_from n i xs l h.1)

not_below : (n i : ℕ) (xs : List ℕ) → n ≤ i → AllBelow n xs → is_in i xs ≡ false
not_below n i [] l h = refl
not_below n i (x ∷ xs) l h = let o = h.0 in or_from (eqb i x) (is_in i xs) (ne_eqb i x (λ e. omega (arith, e, l, o))) (not_below n i xs l h.1)

-- what lies below and what lies from a bound on
pub share_bound : (n : ℕ) (xs ys : List ℕ) → AllBelow n xs → AllFrom n ys → share_a_cell xs ys ≡ false
share_bound n [] ys h k = refl
share_bound n (x ∷ xs) ys h k = or_from (is_in x ys) (share_a_cell xs ys) (not_from n x ys h.0 k) (share_bound n xs ys h.1 k)

pub share_bound_back : (n : ℕ) (xs ys : List ℕ) → AllFrom n xs → AllBelow n ys → share_a_cell xs ys ≡ false
share_bound_back n [] ys h k = refl
share_bound_back n (x ∷ xs) ys h k = or_from (is_in x ys) (share_a_cell xs ys) (not_below n x ys h.0 k) (share_bound_back n xs ys h.1 k)

in_first : (i x : ℕ) (xs : List ℕ) → i ≡ x → is_in i (x ∷ xs) ≡ true
in_first i x xs e = by (eqb i x) (eq-eqb i x e) where
  by : (c : Bool) → c ≡ true → (c || is_in i xs) ≡ true
  by true h = refl
  by false h = absurd (false≢true h)

-- one that is there
pub in_one : (x : ℕ) (xs : List ℕ) → is_in x xs ≡ true → AllIn (x ∷ []) xs
in_one x xs h i e = by (eqb i x) refl e where
  by : (c : Bool) → eqb i x ≡ c → (c || false) ≡ true → is_in i xs ≡ true
  by true c e = rw (eqb-true i x c) h
  by false c e = absurd (false≢true e)

pub in_turn_at : (from n k : ℕ) → k < n → is_in (from + k) (in_turn from n) ≡ true
in_turn_at from zero k l = absurd (omega (arith, l))
in_turn_at from (suc n) zero l = rw (eq-eqb (from + 0) from (omega arith)) refl
in_turn_at from (suc n) (suc k) l = in_tail (from + suc k) from (in_turn (suc from) n) (let e : suc from + k ≡ from + suc k = omega arith in rw (← e) (in_turn_at (suc from) n k (omega (arith, l))))

-- a part of a run
pub in_turn_part : (from n start k : ℕ) → from ≤ start → start + k ≤ from + n → AllIn (in_turn start k) (in_turn from n)
in_turn_part from n start zero l h i e = absurd (false≢true e)
in_turn_part from n start (suc k) l h i e = by (eqb i start) refl (in_turn_part from n (suc start) k (omega (arith, l)) (omega (arith, h)) i) e where
  here : is_in start (in_turn from n) ≡ true
  here = let r : from + (start - from) ≡ start = omega (arith, l) in rw (← r) (in_turn_at from n (start - from) (omega (arith, l, h)))

  by : (c : Bool) → eqb i start ≡ c → (is_in i (in_turn (suc start) k) ≡ true → is_in i (in_turn from n) ≡ true) → (c || is_in i (in_turn (suc start) k)) ≡ true → is_in i (in_turn from n) ≡ true
  by true c f e = rw (eqb-true i start c) here
  by false c f e = f e

pub in_map : (f : ℕ → ℕ) (w : ℕ) (ws : List ℕ) → is_in w ws ≡ true → is_in (f w) (map f ws) ≡ true
in_map f w [] h = absurd (false≢true h)
in_map f w (x ∷ ws) h = by (eqb w x) refl (in_map f w ws) h where
  by : (c : Bool) → eqb w x ≡ c → (is_in w ws ≡ true → is_in (f w) (map f ws) ≡ true) → (c || is_in w ws) ≡ true → is_in (f w) (f x ∷ map f ws) ≡ true
  by true c g e = in_first (f w) (f x) (map f ws) (ap f (eqb-true w x c))
  by false c g e = in_tail (f w) (f x) (map f ws) (g e)

-- blocks that differ lie in cells that differ
module _ (f : ℕ → ℕ) (count : ℕ) (one : (u v : ℕ) → u < count → v < count → f u ≡ f v → u ≡ v) where
  not_at_home : (v : ℕ) (ws : List ℕ) → v < count → AllBelow count ws → is_in v ws ≡ false → is_in (f v) (map f ws) ≡ false
  not_at_home v [] l k h = refl
  not_at_home v (w ∷ ws) l k h =
      let p = or_parts (eqb v w) (is_in v ws) h in
      or_from (eqb (f v) (f w)) (is_in (f v) (map f ws)) (ne_eqb (f v) (f w) (λ e. eqb-false v w p.0 (one v w l k.0 e))) (not_at_home v ws l k.1 p.1)

  pub homes_apart : (vs ws : List ℕ) → AllBelow count vs → AllBelow count ws → share_a_cell vs ws ≡ false → share_a_cell (map f vs) (map f ws) ≡ false
  homes_apart [] ws l k h = refl
  homes_apart (v ∷ vs) ws l k h =
      let p = or_parts (is_in v ws) (share_a_cell vs ws) h in
      or_from (is_in (f v) (map f ws)) (share_a_cell (map f vs) (map f ws)) (not_at_home v ws l.0 k p.0) (homes_apart vs ws l.1 k p.1)

pub turn_distinct : (from n : ℕ) → Distinct (in_turn from n)
turn_distinct from zero = tt
turn_distinct from (suc n) = (not_from (suc from) from (in_turn (suc from) n) (omega arith) (turn_from (suc from) n), turn_distinct (suc from) n)

pub turn_length : (from n : ℕ) → length (in_turn from n) ≡ n
turn_length from zero = refl
turn_length from (suc n) = ap suc (turn_length (suc from) n)
