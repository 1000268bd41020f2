-- Sums of words.
use Rattle.std.proofs.Common.{◌≡◌, ℕ, zero, suc, ◌+◌, ◌-◌, ◌*◌, ◌/◌, ◌%◌, ◌^◌, ◌<◌, ◌≤◌, Bool, true, false, not, eqb, List, [], ◌∷◌, ◌++◌, length, take, drop, get_or, map, refl, sym, ap, ◌∙◌, arith, w8, Fits}
use Rattle.std.proofs.Math.Dec.{eqb-suc-zero}
use mathlib.Core.Bool.{beq}
use lib.Lanes.{Each1, sum_l, number_l}
use Rattle.pi_guard.specs.Guards.{word_sum, checksum_of}
use Rattle.pi_guard.specs.Words.{little_sum, folded, is_half_open, half_open_after, weight_of}

-- ---- the two orders of bytes

pub little_cons : (y : ℕ) (q : List ℕ) → little_sum (y ∷ q) ≡ y + word_sum q
little_cons y [] = omega arith
little_cons y (z ∷ []) = omega arith
little_cons y (z ∷ w ∷ r) = let h = little_cons w r in omega arith

-- the sum of the bytes at odd places
odd_sum : List ℕ → ℕ
odd_sum [] = 0
odd_sum (x ∷ []) = 0
odd_sum (x ∷ y ∷ r) = y + odd_sum r

scaled : (xs : List ℕ) → 256 * little_sum xs ≡ word_sum xs + 65535 * odd_sum xs
unfolding odd_sum
scaled [] = refl
scaled (x ∷ []) = omega arith
scaled (x ∷ y ∷ r) = let h = scaled r in omega arith

odd_le : (xs : List ℕ) → odd_sum xs ≤ word_sum xs
unfolding odd_sum
odd_le [] = omega arith
odd_le (x ∷ []) = omega arith
odd_le (x ∷ y ∷ r) = let h = odd_le r in omega arith

-- ---- carries added back

folded_same : (m n j k : ℕ) → m + 65535 * j ≡ n + 65535 * k → (m ≡ 0 → n ≡ 0) → (n ≡ 0 → m ≡ 0) → folded m ≡ folded n
unfolding folded
folded_same zero zero j k e f g = refl
folded_same zero (suc n) j k e f g = let h = f refl in absurd (omega arith)
folded_same (suc m) zero j k e f g = let h = g refl in absurd (omega arith)
folded_same (suc m) (suc n) j k e f g = let h : m % 65535 ≡ n % 65535 = omega arith in rw h refl

pub folded_small : (s : ℕ) → s < 65536 → folded s ≡ s
unfolding folded
folded_small zero h = refl
folded_small (suc s) h = omega arith

pub folded_lt : (s : ℕ) → folded s < 65536
unfolding folded
folded_lt zero = omega arith
folded_lt (suc s) = omega arith

pub folded-add : (s t : ℕ) → folded (folded s + t) ≡ folded (s + t)
unfolding folded
folded-add zero t = refl
folded-add (suc s) t = folded_same (s % 65535 + 1 + t) (suc s + t) (s / 65535) 0 (omega arith) (λ h. omega arith) (λ h. omega arith)

pub fold_none : (s : ℕ) → s ≡ 0 → 0 ≡ folded s
unfolding folded
fold_none s e = rw e refl

pub fold_some : (s : ℕ) → 1 ≤ s → (s - 1) % 65535 + 1 ≡ folded s
unfolding folded
fold_some zero h = absurd (omega arith)
fold_some (suc s) h = let e : suc s - 1 ≡ s = omega arith in rw e refl

pub complement : (s : ℕ) → 65535 - folded s ≡ checksum_of s
unfolding folded
complement zero = refl
complement (suc s) =
    let e : suc s - 1 ≡ s = omega arith in
    let o : eqb (suc s) 0 ≡ false = eqb-suc-zero s in
    rw (o, e) refl

-- ---- parts

not_not : (b : Bool) → not (not b) ≡ b
not_not true = refl
not_not false = refl

append_open : (b p : List ℕ) → is_half_open b ≡ true → word_sum (b ++ p) ≡ word_sum b + little_sum p
append_open [] p e = cc
append_open (x ∷ []) [] e = omega arith
append_open (x ∷ []) (y ∷ q) e = let h = little_cons y q in omega arith
append_open (x ∷ y ∷ r) p e = let h = append_open r p (sym (not_not (is_half_open r)) ∙ e) in omega arith

append_whole : (b p : List ℕ) → is_half_open b ≡ false → word_sum (b ++ p) ≡ word_sum b + word_sum p
append_whole [] p e = omega arith
append_whole (x ∷ []) p e = cc
append_whole (x ∷ y ∷ r) p e = let h = append_whole r p (sym (not_not (is_half_open r)) ∙ e) in omega arith

by_weight : (o : Bool) (b p : List ℕ) → is_half_open b ≡ o → folded (word_sum b + weight_of o * little_sum p) ≡ folded (word_sum (b ++ p))
by_weight true b p e =
    let h = append_open b p e in
    let k : word_sum b + 1 * little_sum p ≡ word_sum (b ++ p) = omega arith in
    ap folded k
by_weight false b p e =
    let h = append_whole b p e in
    let s = scaled p in
    let l = odd_le p in
    folded_same (word_sum b + 256 * little_sum p) (word_sum (b ++ p)) 0 (odd_sum p) (omega arith) (λ z. omega arith) (λ z. omega arith)

pub more_words : (b p : List ℕ) → folded (folded (word_sum b) + weight_of (is_half_open b) * little_sum p) ≡ folded (word_sum (b ++ p))
more_words b p = folded-add (word_sum b) (weight_of (is_half_open b) * little_sum p) ∙ by_weight (is_half_open b) b p refl

after_not : (o : Bool) (xs : List ℕ) → half_open_after (not o) xs ≡ not (half_open_after o xs)
after_not o [] = refl
after_not o (x ∷ xs) = after_not (not o) xs

from_none : (p : List ℕ) → is_half_open p ≡ half_open_after false p
from_none [] = refl
from_none (x ∷ p) = ap not (from_none p) ∙ sym (after_not false p)

pub half_open-append : (b p : List ℕ) → half_open_after (is_half_open b) p ≡ is_half_open (b ++ p)
half_open-append [] p = sym (from_none p)
half_open-append (x ∷ b) p = after_not (is_half_open b) p ∙ ap not (half_open-append b p)

-- ---- whether the number of bytes is odd

other_parity : (r s : ℕ) → r < 2 → s + r ≡ 1 → eqb s 1 ≡ not (eqb r 1)
other_parity zero s h e = let k : s ≡ 1 = omega arith in rw k refl
other_parity (suc zero) s h e = let k : s ≡ 0 = omega arith in rw k refl
other_parity (suc (suc r)) s h e = absurd (omega arith)

differs : Bool → Bool → Bool
differs true b = not b
differs false b = b

differs_not : (o t : Bool) → differs o (not t) ≡ differs (not o) t
unfolding differs
differs_not true true = refl
differs_not true false = refl
differs_not false true = refl
differs_not false false = refl

differs_from : (o : Bool) (p : List ℕ) → differs o (eqb (length p % 2) 1) ≡ half_open_after o p
unfolding differs
differs_from true [] = refl
differs_from false [] = refl
differs_from o (x ∷ p) =
    let t = eqb (length p % 2) 1 in
    let k = other_parity (length p % 2) (suc (length p) % 2) (omega arith) (omega arith) in
    ap (differs o) k ∙ differs_not o t ∙ differs_from (not o) p

not_beq : (o t : Bool) → not (beq o t) ≡ differs o t
unfolding differs
not_beq true true = refl
not_beq true false = refl
not_beq false true = refl
not_beq false false = refl

pub by_parity : (o : Bool) (p : List ℕ) → not (beq o (eqb (length p % 2) 1)) ≡ half_open_after o p
by_parity o p = not_beq o (eqb (length p % 2) 1) ∙ differs_from o p

-- ---- chunks

twice : ℕ → ℕ
twice zero = zero
twice (suc k) = suc (suc (twice k))

twice-is : (k : ℕ) → twice k ≡ 2 * k
unfolding twice
twice-is zero = refl
twice-is (suc k) = let h = twice-is k in omega arith

little_cut : (k : ℕ) (xs : List ℕ) → little_sum xs ≡ little_sum (take (twice k) xs) + little_sum (drop (twice k) xs)
unfolding twice
little_cut zero xs = omega arith
little_cut (suc k) [] = refl
little_cut (suc k) (x ∷ []) = omega arith
little_cut (suc k) (x ∷ y ∷ r) = let h = little_cut k r in omega arith

pub little_split : (n k : ℕ) (xs : List ℕ) → n ≡ 2 * k → little_sum xs ≡ little_sum (take n xs) + little_sum (drop n xs)
little_split n k xs e =
    let h : twice k ≡ n = twice-is k ∙ sym e in
    little_cut k xs ∙ ap (λ v. little_sum (take v xs) + little_sum (drop v xs)) h

pub little_le : (xs : List ℕ) → ((k : ℕ) → Fits w8 (get_or xs k 0)) → little_sum xs ≤ 65535 * length xs
little_le [] f = omega arith
little_le (x ∷ []) f = let h = (f 0).fits in omega arith
little_le (x ∷ y ∷ r) f =
    let h = (f 0).fits in
    let k = (f 1).fits in
    let i = little_le r (λ n. f (suc (suc n))) in
    omega arith

pub weight-add : (o : Bool) (a b : ℕ) → weight_of o * (a + b) ≡ weight_of o * a + weight_of o * b
weight-add true a b = omega arith
weight-add false a b = omega arith

pub weight_lt : (o : Bool) (s : ℕ) → s < 2 ^ 32 → weight_of o * s < 2 ^ 40
weight_lt true s h = omega arith
weight_lt false s h = omega arith

-- one chunk, and then the rest
pub chunk_taken : (o : Bool) (sum total : ℕ) (xs : List ℕ) → total ≡ little_sum (take 65536 xs) →
    folded (folded (sum + weight_of o * total) + weight_of o * little_sum (drop 65536 xs)) ≡ folded (sum + weight_of o * little_sum xs)
chunk_taken o sum total xs e =
    let rest = little_sum (drop 65536 xs) in
    let s = little_split 65536 32768 xs refl in
    let w = weight-add o total rest in
    let k : sum + weight_of o * total + weight_of o * rest ≡ sum + weight_of o * (total + rest) = omega arith in
    let t : total + rest ≡ little_sum xs = rw e (sym s) in
    folded-add (sum + weight_of o * total) (weight_of o * rest) ∙ ap folded k ∙ ap (λ v. folded (sum + weight_of o * v)) t

pub nothing_left : (o : Bool) (sum : ℕ) (xs : List ℕ) → sum < 65536 → length xs ≡ 0 → sum ≡ folded (sum + weight_of o * little_sum xs)
nothing_left true sum [] h e = sym (folded_small sum h) ∙ ap folded (omega arith)
nothing_left false sum [] h e = sym (folded_small sum h) ∙ ap folded (omega arith)
nothing_left o sum (x ∷ xs) h e = absurd (omega arith)

-- ---- numbers of four bytes

-- the first n of them
abbrev pub numbers : ℕ → ℕ → List ℕ
numbers zero v = []
numbers (suc n) v = v % 4294967296 ∷ numbers n (v / 4294967296)

-- the two words of a number
abbrev pub words : ℕ → ℕ
words a = a % 65536 + a / 65536

four_times : ℕ → ℕ
four_times zero = zero
four_times (suc n) = suc (suc (suc (suc (four_times n))))

one_number : (a b c d r v : ℕ) → a < 256 → b < 256 → c < 256 → d < 256 → v ≡ a + 256 * (b + 256 * (c + 256 * (d + 256 * r))) →
    (v / 4294967296 ≡ r) × (words (v % 4294967296) ≡ a + b * 256 + (c + d * 256))
one_number a b c d r v ha hb hc hd e =
    let low : v % 4294967296 ≡ a + 256 * b + 65536 * c + 16777216 * d = omega arith in
    (omega arith, omega arith)

numbers_add : (n : ℕ) (xs : List ℕ) → length xs ≡ four_times n → Each1 (Fits w8) xs → sum_l (map words (numbers n (number_l 256 xs))) ≡ little_sum xs
unfolding four_times
numbers_add zero [] l f = refl
numbers_add zero (x ∷ xs) l f = absurd (omega arith)
numbers_add (suc n) [] l f = absurd (omega arith)
numbers_add (suc n) (a ∷ []) l f = absurd (omega arith)
numbers_add (suc n) (a ∷ b ∷ []) l f = absurd (omega arith)
numbers_add (suc n) (a ∷ b ∷ c ∷ []) l f = absurd (omega arith)
numbers_add (suc n) (a ∷ b ∷ c ∷ d ∷ r) l f =
    let v = number_l 256 (a ∷ b ∷ c ∷ d ∷ r) in
    let o = one_number a b c d (number_l 256 r) v f.0.fits f.1.0.fits f.1.1.0.fits f.1.1.1.0.fits refl in
    let h = numbers_add n r (omega arith) f.1.1.1.1 in
    let t : sum_l (map words (numbers n (v / 4294967296))) ≡ little_sum r = ap (λ w. sum_l (map words (numbers n w))) o.0 ∙ h in
    let p = o.1 in
    omega arith

pub eight_numbers : (xs : List ℕ) → length xs ≡ 32 → Each1 (Fits w8) xs → sum_l (map words (numbers 8 (number_l 256 xs))) ≡ little_sum xs
unfolding four_times
eight_numbers xs l f = numbers_add 8 xs l f
