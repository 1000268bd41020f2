-- An act by what stands before and behind it in place of its number: fit for lists that are joined of ops and blocks.
use Rattle.std.proofs.Common.{◌≡◌, ◌<◌, ℕ, zero, suc, Bool, false, List, [], ◌∷◌, ◌++◌, length, get_or, set, Option, Some, None, refl, sym, ap, arith}
use Rattle.block_path.specs.Serial.{Commutes, Clear, ClearOf, Serial}
use Rattle.block_path.proofs.Serial.{goes_on}

-- it conflicts with none of these
abbrev pub NoneOf : {A : Type 0} → (A → A → Bool) → A → List A → Type 0
NoneOf conflicts a [] = Unit {0}
NoneOf conflicts a (b ∷ before) = (conflicts b a ≡ false) × NoneOf conflicts a before

module _ {A R : Type 0} (conflicts : A → A → Bool) (a : A) where
  -- an op that has ended

  -- an op without conflict, however far it is
  pub clear_apart : (before : List A) (ds : List (Option R)) → NoneOf conflicts a before → ClearOf conflicts a before ds
  clear_apart [] ds h = tt
  clear_apart (b ∷ before) [] h = tt
  clear_apart (b ∷ before) (None ∷ ds) h = (h.0, clear_apart before ds h.1)
  clear_apart (b ∷ before) (Some r ∷ ds) h = clear_apart before ds h.1

  -- one op after another
  pub clear_both : (xs ys : List A) (ds es : List (Option R)) → length ds ≡ length xs → ClearOf conflicts a xs ds → ClearOf conflicts a ys es → ClearOf conflicts a (xs ++ ys) (ds ++ es)
  clear_both [] ys [] es l h k = k
  clear_both [] ys (d ∷ ds) es l h k = absurd (omega (arith, l))
  clear_both (x ∷ xs) ys [] es l h k = absurd (omega (arith, l))
  clear_both (x ∷ xs) ys (None ∷ ds) es l h k = (h.0, clear_both xs ys ds es (omega (arith, l)) h.1 k)
  clear_both (x ∷ xs) ys (Some r ∷ ds) es l h k = clear_both xs ys ds es (omega (arith, l)) h k

  clear_at : (before after : List A) (ds es : List (Option R)) → length ds ≡ length before → ClearOf conflicts a before ds →
      Clear conflicts (length before) a (before ++ (a ∷ after)) (ds ++ (None ∷ es))
  clear_at [] after [] es l h = tt
  clear_at [] after (d ∷ ds) es l h = absurd (omega (arith, l))
  clear_at (b ∷ before) after [] es l h = absurd (omega (arith, l))
  clear_at (b ∷ before) after (None ∷ ds) es l h = (h.0, clear_at before after ds es (omega (arith, l)) h.1)
  clear_at (b ∷ before) after (Some r ∷ ds) es l h = clear_at before after ds es (omega (arith, l)) h

pub at_length : {X : Type 0} (xs ys : List X) (y d : X) (n : ℕ) → n ≡ length xs → get_or (xs ++ (y ∷ ys)) n d ≡ y
at_length [] ys y d n e = rw e refl
at_length (x ∷ xs) ys y d zero e = absurd (omega (arith, e))
at_length (x ∷ xs) ys y d (suc n) e = at_length xs ys y d n (omega (arith, e))

pub set_at_length : {X : Type 0} (xs ys : List X) (y z : X) (n : ℕ) → n ≡ length xs → set (xs ++ (y ∷ ys)) n z ≡ xs ++ (z ∷ ys)
set_at_length [] ys y z n e = rw e refl
set_at_length (x ∷ xs) ys y z zero e = absurd (omega (arith, e))
set_at_length (x ∷ xs) ys y z (suc n) e = ap (λ rest. x ∷ rest) (set_at_length xs ys y z n (omega (arith, e)))

pub in_list : {X : Type 0} (xs ys : List X) (y : X) → length xs < length (xs ++ (y ∷ ys))
in_list [] ys y = omega arith
in_list (x ∷ xs) ys y = let h = in_list xs ys y in omega (arith, h)

pub goes_on_between : {S A R : Type 0} (act : A → S → S) (tell : A → S → R) (conflicts : A → A → Bool) (c : Commutes act tell conflicts)
    (before after : List A) (a : A) (ds es : List (Option R)) (opening now : S) → length ds ≡ length before → ClearOf conflicts a before ds →
    Serial act tell conflicts (before ++ (a ∷ after)) opening (ds ++ (None ∷ es)) now →
    Serial act tell conflicts (before ++ (a ∷ after)) opening (ds ++ (Some (tell a now) ∷ es)) (act a now)
goes_on_between act tell conflicts c before after a ds es opening now l h s =
    rw (← set_at_length ds es None (Some (tell a now)) (length before) (sym l))
    (goes_on act tell conflicts c (before ++ (a ∷ after)) opening (ds ++ (None ∷ es)) now (length before) a s (record {
      within = in_list before after a;
      is_there = at_length before after a a (length before) refl;
      is_new = λ d. at_length ds es None d (length before) (sym l);
      clear = clear_at conflicts a before after ds es l h;
    }))
