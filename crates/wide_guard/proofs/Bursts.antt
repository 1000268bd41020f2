-- The CRC of two messages is one only where the sum of the two leaves no remainder.
use Rattle.std.proofs.Common.{◌≡◌, ◌≢◌, ℕ, zero, suc, ◌+◌, ◌*◌, ◌/◌, ◌%◌, ◌<◌, ◌^◌, Bool, true, false, not, eqb, inl, inr, List, [], ◌∷◌, ◌++◌, length, map, get_or, refl, sym, ap, ◌∙◌, arith, length-append, subst}
use Rattle.std.specs.Prelude.{replicate}
use Rattle.std.proofs.lemmas.List.{get_or_past, get_or-replicate, same_lists, get_or_default, length-map, length-replicate}
use Rattle.std.proofs.lemmas.Bool.{cases_lt}
use Rattle.std.proofs.Math.Nat.{pow-suc}
use Rattle.pi_guard.specs.Guards.{add_front, bits_of, divide, plus}
use Rattle.pi_guard.proofs.Division.{EndsInOne, IsNone, add_both, added, added_at, are_bytes, divide-added, length-add_front, length-added, length-divide, places_anywhere, plus_same, same_plus, with_itself}
use Rattle.wide_guard.specs.Changes.{IsBurst, IsChange, bit_in}
use Rattle.wide_guard.specs.Reflected.{crc32c, crc64, low_bits, low_first, low_number, reflected}

-- bits are told by their number
same_number : (xs ys : List Bool) → length xs ≡ length ys → low_number xs ≡ low_number ys → xs ≡ ys
same_number [] [] h e = refl
same_number [] (y ∷ ys) h e = absurd (omega arith)
same_number (x ∷ xs) [] h e = absurd (omega arith)
same_number (false ∷ xs) (false ∷ ys) h e = ap (λ v. false ∷ v) (same_number xs ys (omega arith) (omega arith))
same_number (true ∷ xs) (true ∷ ys) h e = ap (λ v. true ∷ v) (same_number xs ys (omega arith) (omega arith))
same_number (false ∷ xs) (true ∷ ys) h e = absurd (omega arith)
same_number (true ∷ xs) (false ∷ ys) h e = absurd (omega arith)

-- and by their inverses
turned_back : (xs ys : List Bool) → map not xs ≡ map not ys → xs ≡ ys
turned_back [] [] e = refl
turned_back [] (y ∷ ys) e = absurd cc
turned_back (x ∷ xs) [] e = absurd cc
turned_back (true ∷ xs) (true ∷ ys) e = ap (λ v. true ∷ v) (turned_back xs ys cc)
turned_back (false ∷ xs) (false ∷ ys) e = ap (λ v. false ∷ v) (turned_back xs ys cc)
turned_back (true ∷ xs) (false ∷ ys) e = absurd cc
turned_back (false ∷ xs) (true ∷ ys) e = absurd cc

low_first-length : (xs : List ℕ) → length (low_first xs) ≡ 8 * length xs
low_first-length [] = refl
low_first-length (x ∷ xs) = let h = low_first-length xs in omega arith

digits_same : (x y : ℕ) → x < 2 → y < 2 → eqb x 1 ≡ eqb y 1 → x ≡ y
digits_same zero zero p q e = refl
digits_same zero (suc zero) p q e = absurd cc
digits_same (suc zero) zero p q e = absurd cc
digits_same (suc zero) (suc zero) p q e = refl
digits_same (suc (suc x)) y p q e = absurd (omega arith)
digits_same zero (suc (suc y)) p q e = absurd (omega arith)
digits_same (suc zero) (suc (suc y)) p q e = absurd (omega arith)

-- a number is told by its bits
same_bits : (n x y : ℕ) → x < 2 ^ n → y < 2 ^ n → low_bits n x ≡ low_bits n y → x ≡ y
same_bits zero x y p q e = omega arith
same_bits (suc n) x y p q e =
    let t = pow-suc 2 n in
    let head : eqb (x % 2) 1 ≡ eqb (y % 2) 1 = cc in
    let tail : low_bits n (x / 2) ≡ low_bits n (y / 2) = cc in
    let d = digits_same (x % 2) (y % 2) (omega arith) (omega arith) head in
    let h = same_bits n (x / 2) (y / 2) (omega arith) (omega arith) tail in
    omega arith

-- bytes are told by their bits
same_bytes : (a b : List ℕ) → ((k : ℕ) → get_or a k 0 < 256) → ((k : ℕ) → get_or b k 0 < 256) → length a ≡ length b → low_first a ≡ low_first b → a ≡ b
same_bytes [] [] ha hb l e = refl
same_bytes [] (y ∷ b) ha hb l e = absurd (omega arith)
same_bytes (x ∷ a) [] ha hb l e = absurd (omega arith)
same_bytes (x ∷ a) (y ∷ b) ha hb l e =
    let first : low_bits 8 x ≡ low_bits 8 y = cc in
    let rest : low_first a ≡ low_first b = cc in
    let s = same_bits 8 x y (ha 0) (hb 0) first in
    let t = same_bytes a b (λ k. ha (suc k)) (λ k. hb (suc k)) (omega arith) rest in
    cc

-- a message with the zeros behind it, and the sum of two
abbrev raised : ℕ → List ℕ → List Bool
raised w a = low_first a ++ replicate w false

abbrev sum_of : ℕ → List ℕ → List ℕ → List Bool
sum_of w a b = added (raised w a) (raised w b)

none_behind : (w : ℕ) (l : List Bool) (k : ℕ) → get_or (l ++ replicate w false) k false ≡ get_or l k false
none_behind w [] k = elim (cases_lt k w) [ inl h ↦ get_or-replicate w k false false h | inr h ↦ get_or_past (replicate w false) k false (let l = length-replicate w false in omega arith) ]
none_behind w (x ∷ l) zero = refl
none_behind w (x ∷ l) (suc k) = none_behind w l k

bits_as_long : (a b : List ℕ) → length a ≡ length b → length (low_first a) ≡ length (low_first b)
bits_as_long a b h = low_first-length a ∙ ap (λ v. 8 * v) h ∙ sym (low_first-length b)

raised-length : (w : ℕ) (a : List ℕ) → length (raised w a) ≡ length (low_first a) + w
raised-length w a = length-append (low_first a) (replicate w false) ∙ ap (λ v. length (low_first a) + v) (length-replicate w false)

as_long : (w : ℕ) (a b : List ℕ) → length a ≡ length b → length (raised w a) ≡ length (raised w b)
as_long w a b h = raised-length w a ∙ ap (λ v. v + w) (bits_as_long a b h) ∙ sym (raised-length w b)

length-sum_of : (w : ℕ) (a b : List ℕ) → length a ≡ length b → length (sum_of w a b) ≡ length (low_first a) + w
length-sum_of w a b h = length-added (raised w a) (raised w b) (as_long w a b h) ∙ raised-length w a

sum_at : (w : ℕ) (a b : List ℕ) (k : ℕ) → length a ≡ length b → get_or (sum_of w a b) k false ≡ plus (bit_in a k) (bit_in b k)
sum_at w a b k h =
    let p = none_behind w (low_first a) k in
    let q = none_behind w (low_first b) k in
    added_at (raised w a) (raised w b) k (as_long w a b h) ∙ rw (p, q) refl

-- one CRC for both is no remainder for the sum
one_crc : (w poly : ℕ) (a b : List ℕ) → length a ≡ length b → reflected w poly a ≡ reflected w poly b → IsNone (divide (bits_of w poly) (length (low_first a)) (sum_of w a b))
unfolding reflected
one_crc w poly a b h e =
    let d = bits_of w poly in
    let n = length (low_first a) in
    let s = bits_as_long a b h in
    let ones = replicate w true in
    let x = add_front ones (raised w a) in
    let y = add_front ones (raised w b) in
    let lx : length x ≡ n + w = length-add_front ones (raised w a) ∙ raised-length w a in
    let ly : length y ≡ n + w = length-add_front ones (raised w b) ∙ raised-length w b ∙ ap (λ v. v + w) (sym s) in
    let u = divide d n x in
    let v = divide d n y in
    let lu : length (map not u) ≡ w = length-map u not ∙ length-divide d n w x lx in
    let lv : length (map not v) ≡ w = length-map v not ∙ length-divide d n w y ly in
    let f : low_number (map not u) ≡ low_number (map not v) = e ∙ ap (λ m. low_number (map not (divide d m y))) (sym s) in
    let g : u ≡ v = turned_back u v (same_number (map not u) (map not v) (lu ∙ sym lv) f) in
    subst IsNone (sym (ap (divide d n) (sym (add_both ones (raised w a) (raised w b))) ∙ divide-added d n x y ∙ ap (added u) (sym g))) (with_itself u)

-- a change is seen in a bit
some_bit : (w : ℕ) (a b : List ℕ) → IsChange a b → IsNone (sum_of w a b) → ⊥
some_bit w a b c n =
    let l = bits_as_long a b c.as_long in
    let at : (k : ℕ) → bit_in a k ≡ bit_in b k = λ k. same_plus (bit_in a k) (bit_in b k) (sym (sum_at w a b k c.as_long) ∙ n k) in
    let same : (k : ℕ) (d : Bool) → k < length (low_first a) → get_or (low_first a) k d ≡ get_or (low_first b) k d =
    λ k d g. get_or_default (low_first a) k d false g ∙ at k ∙ get_or_default (low_first b) k false d (subst (λ m. k < m) l g) in
    c.differ (same_bytes a b (are_bytes a c.bytes) (are_bytes b c.other_bytes) c.as_long (same_lists (low_first a) (low_first b) l same))

burst_shown : (n poly : ℕ) (a b : List ℕ) (first : ℕ) → EndsInOne (bits_of (suc n) poly) n → IsChange a b → IsBurst (suc n) first a b → reflected (suc n) poly a ≢ reflected (suc n) poly b
burst_shown n poly a b first d c burst e =
    let none_where_same : (k : ℕ) → bit_in a k ≡ bit_in b k → get_or (sum_of (suc n) a b) k false ≡ false =
    λ k h. sum_at (suc n) a b k c.as_long ∙ plus_same (bit_in a k) (bit_in b k) h in
    some_bit (suc n) a b c (places_anywhere (bits_of (suc n) poly) n first (length (low_first a)) (sum_of (suc n) a b) d (length-sum_of (suc n) a b c.as_long)
    (λ k h. none_where_same k (burst k (inl h)))
    (λ k h. none_where_same k (burst k (inr h)))
    (one_crc (suc n) poly a b c.as_long e))

ends_32 : EndsInOne (bits_of 32 0x1EDC6F41) 31
ends_32 = record { long = refl; ends = refl }

ends_64 : EndsInOne (bits_of 64 0xAD93D23594C93659) 63
ends_64 = record { long = refl; ends = refl }

pub burst_32 : (a b : List ℕ) (first : ℕ) → IsChange a b → IsBurst 32 first a b → crc32c a ≢ crc32c b
unfolding crc32c
burst_32 a b first c burst = burst_shown 31 0x1EDC6F41 a b first ends_32 c burst

pub burst_64 : (a b : List ℕ) (first : ℕ) → IsChange a b → IsBurst 64 first a b → crc64 a ≢ crc64 b
unfolding crc64
burst_64 a b first c burst = burst_shown 63 0xAD93D23594C93659 a b first ends_64 c burst
