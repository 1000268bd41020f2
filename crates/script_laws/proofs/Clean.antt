-- Printed words hold no space and no mark.
use Rattle.std.proofs.Common.{ℕ, ◌≡◌, ◌+◌, ◌%◌, ◌^◌, ◌<◌, Bool, true, not, eqb, List, [], ◌∷◌, ◌++◌, refl, ◌∙◌, arith}
use Rattle.std.specs.List.{list_all}
use Rattle.std.specs.Prelude.{decimal}
use Rattle.std.proofs.lemmas.Bool.Decides.{nat_tests}
use Rattle.std.proofs.lemmas.Fmt.{decimal_by_steps}
use Rattle.std.proofs.lemmas.List.Folds.{list_all-append}
use Rattle.std.proofs.lemmas.Bool.{and_from}
use Rattle.script_words.specs.Decimals.{is_digit}
use Rattle.script_laws.specs.Clean.{IsWord, avoids, clean, is_filled, is_visible}
use Rattle.small_laws.proofs.Tests.{and_first, and_second}

pub clean_both : (a b : List ℕ) → clean a ≡ true → clean b ≡ true → clean (a ++ b) ≡ true
clean_both a b g h = list_all-append is_visible a b ∙ and_from (clean a) (clean b) g h

filled_first : (a b : List ℕ) → is_filled a ≡ true → is_filled (a ++ b) ≡ true
filled_first [] b h = absurd (cc)
filled_first (x ∷ a) b h = refl

pub word_more : (a b : List ℕ) → IsWord a → clean b ≡ true → IsWord (a ++ b)
word_more a b g h = record { clean_is = clean_both a b g.clean_is h; filled_is = filled_first a b g.filled_is }

pub avoids_both : (mark : ℕ) (a b : List ℕ) → avoids mark a ≡ true → avoids mark b ≡ true → avoids mark (a ++ b) ≡ true
avoids_both mark a b g h = list_all-append (λ x. not (eqb x mark)) a b ∙ and_from (avoids mark a) (avoids mark b) g h

visible_not : (mark b : ℕ) → mark < 33 → is_visible b ≡ true → not (eqb b mark) ≡ true
visible_not mark b m h = grind (arith, nat_tests)

pub clean_avoids : (mark : ℕ) (w : List ℕ) → mark < 33 → clean w ≡ true → avoids mark w ≡ true
clean_avoids mark [] m h = refl
clean_avoids mark (b ∷ w) m h =
    and_from (not (eqb b mark)) (avoids mark w) (visible_not mark b m (and_first (is_visible b) (clean w) h)) (clean_avoids mark w m (and_second (is_visible b) (clean w) h))

-- numbers

abbrev pub are_digits : List ℕ → Bool
are_digits w = list_all is_digit w

digit_visible : (b : ℕ) → is_digit b ≡ true → is_visible b ≡ true
digit_visible b h = grind (arith, nat_tests)

digit_not : (mark b : ℕ) → mark < 48 → is_digit b ≡ true → not (eqb b mark) ≡ true
digit_not mark b m h = grind (arith, nat_tests)

digit_not_above : (mark b : ℕ) → 57 < mark → is_digit b ≡ true → not (eqb b mark) ≡ true
digit_not_above mark b m h = grind (arith, nat_tests)

pub digits_clean : (w : List ℕ) → are_digits w ≡ true → clean w ≡ true
digits_clean [] h = refl
digits_clean (b ∷ w) h = and_from (is_visible b) (clean w) (digit_visible b (and_first (is_digit b) (are_digits w) h)) (digits_clean w (and_second (is_digit b) (are_digits w) h))

pub digits_avoid : (mark : ℕ) (w : List ℕ) → mark < 48 → are_digits w ≡ true → avoids mark w ≡ true
digits_avoid mark [] m h = refl
digits_avoid mark (b ∷ w) m h =
    and_from (not (eqb b mark)) (avoids mark w) (digit_not mark b m (and_first (is_digit b) (are_digits w) h)) (digits_avoid mark w m (and_second (is_digit b) (are_digits w) h))

pub digits_avoid_above : (mark : ℕ) (w : List ℕ) → 57 < mark → are_digits w ≡ true → avoids mark w ≡ true
digits_avoid_above mark [] m h = refl
digits_avoid_above mark (b ∷ w) m h =
    and_from (not (eqb b mark)) (avoids mark w) (digit_not_above mark b m (and_first (is_digit b) (are_digits w) h)) (digits_avoid_above mark w m (and_second (is_digit b) (are_digits w) h))

one_digit : (n : ℕ) → n < 10 → are_digits ((48 + n) ∷ []) ≡ true
one_digit n h = grind (arith, nat_tests)

last_digit : (n : ℕ) → is_digit (48 + n % 10) ≡ true
last_digit n = let h : n % 10 < 10 = omega arith in grind (arith, nat_tests)

pub decimal_digits : (n : ℕ) → n < 2 ^ 64 → are_digits (decimal n) ≡ true
decimal_digits n h =
    decimal_by_steps (λ m ds. are_digits ds ≡ true) (λ m l. one_digit m l)
    (λ m ds l r. list_all-append is_digit ds ((48 + m % 10) ∷ []) ∙ and_from (are_digits ds) (are_digits ((48 + m % 10) ∷ [])) r (and_from (is_digit (48 + m % 10)) true (last_digit m) refl)) n h

pub decimal_filled : (n : ℕ) → n < 2 ^ 64 → is_filled (decimal n) ≡ true
decimal_filled n h = decimal_by_steps (λ m ds. is_filled ds ≡ true) (λ m l. refl) (λ m ds l r. filled_first ds ((48 + m % 10) ∷ []) r) n h

pub decimal_word : (n : ℕ) → n < 2 ^ 64 → IsWord (decimal n)
decimal_word n h = record { clean_is = digits_clean (decimal n) (decimal_digits n h); filled_is = decimal_filled n h }
