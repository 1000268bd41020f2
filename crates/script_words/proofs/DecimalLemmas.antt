-- The value of digits so far, and whether it passes 64 bits.
use Rattle.std.proofs.Common.{ℕ, ◌≡◌, ◌+◌, ◌-◌, ◌*◌, ◌^◌, ◌<◌, ◌≤◌, suc, true, false, ltb, List, [], ◌∷◌, length, drop, get_or, Some, None, refl, ap, arith, drop-cons, lt-ltb}
use Rattle.std.proofs.lemmas.Bool.{le-ltb}
use Rattle.script_words.specs.Decimals.{is_number, number_in, value_from}

-- a value only grows with further digits
value_grows : (n : ℕ) (ds : List ℕ) → n ≤ value_from n ds
value_grows n [] = omega arith
value_grows n (d ∷ ds) = let more = value_grows (n * 10 + (d - 48)) ds in omega (arith, more)

by_digit : (word : List ℕ) (i v : ℕ) → i < length word → value_from v (drop i word) ≡ value_from (v * 10 + (get_or word i 0 - 48)) (drop (suc i) word)
by_digit word i v h = ap (value_from v) (drop-cons word i 0 h)

pub over : (word : List ℕ) (i v : ℕ) → value_from v (drop i word) ≡ value_from 0 word → i < length word → is_number word ≡ true → 2 ^ 64 ≤ v * 10 + (get_or word i 0 - 48) → number_in word ≡ None
over word i v same h spelled big =
    let d = by_digit word i v h in
    let grown = value_grows (v * 10 + (get_or word i 0 - 48)) (drop (suc i) word) in
    let large : 2 ^ 64 ≤ value_from 0 word = omega (arith, grown, d, same) in
    let t : ltb (value_from 0 word) (2 ^ 64) ≡ false = le-ltb (value_from 0 word) (2 ^ 64) large in
    rw (spelled, t) refl

pub within : (word : List ℕ) (v : ℕ) → v ≡ value_from 0 word → is_number word ≡ true → v < 2 ^ 64 → Some v ≡ number_in word
within word v same spelled small =
    let t : ltb (value_from 0 word) (2 ^ 64) ≡ true = lt-ltb (value_from 0 word) (2 ^ 64) (omega (arith, same, small)) in
    rw (spelled, t) (ap Some same)
