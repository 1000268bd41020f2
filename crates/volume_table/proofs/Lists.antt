-- Elements of lists, and tests that none of them passes.
use Rattle.std.proofs.Common.{◌≡◌, ℕ, zero, suc, ◌<◌, Bool, false, ◌||◌, List, [], ◌∷◌, ◌++◌, length, get_or, map, ◌⊎◌, inl, inr, refl, subst, Contains, arith}
use Rattle.std.specs.List.{list_any}
use Rattle.std.proofs.lemmas.Bool.{or_parts}

abbrev pub In : {X : Type 0} → X → List X → Type 0
In x [] = ⊥
In x (y ∷ ys) = (y ≡ x) ⊎ In x ys

at_in : {X : Type 0} (x : X) (xs : List X) (k : ℕ) → k < length xs → get_or xs k x ≡ x → In x xs
at_in x [] k w e = absurd (omega arith)
at_in x (y ∷ ys) zero w e = inl e
at_in x (y ∷ ys) (suc k) w e = inr (at_in x ys k (omega arith) e)

pub contains_in : {X : Type 0} (xs : List X) (x : X) → Contains xs x → In x xs
contains_in xs x c = at_in x xs c.0 c.1 c.2

pub in_contains : {X : Type 0} (xs : List X) (x : X) → In x xs → Contains xs x
in_contains [] x h = absurd h
in_contains (y ∷ ys) x h =
    elim h [
      | inl e ↦ (0, omega arith, e)
      | inr later ↦ let c = in_contains ys x later in (suc c.0, omega (arith, c.1), c.2)
    ]

pub in_front : {X : Type 0} (x : X) (xs ys : List X) → In x xs → In x (xs ++ ys)
in_front x [] ys h = absurd h
in_front x (z ∷ zs) ys h = elim h [ inl e ↦ inl e | inr later ↦ inr (in_front x zs ys later) ]

pub in_last : {X : Type 0} (x : X) (xs : List X) → In x (xs ++ x ∷ [])
in_last x [] = inl refl
in_last x (z ∷ zs) = inr (in_last x zs)

pub in_map : {X Y : Type 0} (f : X → Y) (d : X) (xs : List X) (k : ℕ) → k < length xs → In (f (get_or xs k d)) (map f xs)
in_map f d [] k w = absurd (omega arith)
in_map f d (x ∷ xs) zero w = inl refl
in_map f d (x ∷ xs) (suc k) w = inr (in_map f d xs k (omega arith))

pub none_in : {X : Type 0} (p : X → Bool) (xs : List X) (x : X) → list_any p xs ≡ false → In x xs → p x ≡ false
none_in p [] x h i = absurd i
none_in p (y ∷ ys) x h i =
    elim i [
      | inl e ↦ subst (λ z. p z ≡ false) e (or_parts (p y) (list_any p ys) h).0
      | inr later ↦ none_in p ys x (or_parts (p y) (list_any p ys) h).1 later
    ]
