-- The end of a window of 128 bytes in vectors of 32.
use Rattle.std.proofs.Common.{◌≡◌, ℕ, zero, suc, ◌+◌, ◌≤◌, List, [], ◌∷◌, ◌++◌, length, map, take, drop, refl, sym, ap, ◌∙◌, arith, length-append, w8, Fits}
use Rattle.std.specs.Prelude.{bit_xor}
use Rattle.std.specs.Int.Bits.{xor_assoc}
use Rattle.std.proofs.lemmas.List.{length-map, take_at, drop_at}
use Rattle.std.proofs.Math.Seq.{take-length}
use Rattle.std.proofs.lemmas.Simd.{length-chunk, length-zip2, Each1-chunk}
use lib.Lanes.{zip2, chunk}
use Rattle.pi_guard.specs.Register.{register}
use Rattle.pi_guard.specs.AfterZeros.{later}
use Rattle.pi_guard.specs.Windows.{by_halves}
use Rattle.pi_guard.specs.Broad.{by_sixteens}
use Rattle.pi_guard.proofs.Linear.{swap_middle, later-xor}
use Rattle.pi_guard.proofs.Folds.{Splits, split_register}
use Rattle.pi_guard.proofs.Lookup.{IsBytes}
use Rattle.pi_guard.proofs.Sparse.{later-add}
use Rattle.pi_guard.proofs.Trailing.{zero-append, zero-xor, chunk-cat}
use Rattle.pi_guard.proofs.Closing.{pair}

take-zip : (n : ℕ) (xs ys : List ℕ) → take n (zip2 bit_xor xs ys) ≡ zip2 bit_xor (take n xs) (take n ys)
take-zip zero xs ys = refl
take-zip (suc n) [] ys = refl
take-zip (suc n) (x ∷ xs) [] = refl
take-zip (suc n) (x ∷ xs) (y ∷ ys) = ap (λ v. bit_xor x y ∷ v) (take-zip n xs ys)

zip-none : (xs : List ℕ) → zip2 bit_xor xs [] ≡ []
zip-none [] = refl
zip-none (x ∷ xs) = refl

drop-zip : (n : ℕ) (xs ys : List ℕ) → drop n (zip2 bit_xor xs ys) ≡ zip2 bit_xor (drop n xs) (drop n ys)
drop-zip zero xs ys = refl
drop-zip (suc n) [] ys = refl
drop-zip (suc n) (x ∷ xs) [] = sym (zip-none (drop n xs))
drop-zip (suc n) (x ∷ xs) (y ∷ ys) = drop-zip n xs ys

chunk-zip : (k n : ℕ) (xs ys : List ℕ) → chunk k n (zip2 bit_xor xs ys) ≡ zip2 bit_xor (chunk k n xs) (chunk k n ys)
chunk-zip k n xs ys = ap (take n) (drop-zip k xs ys) ∙ take-zip n (drop k xs) (drop k ys)

-- what the halves of a vector leave together
abbrev pub halves_leave : List ℕ → ℕ
halves_leave v = bit_xor (register 0 (chunk 0 16 v)) (register 0 (chunk 16 16 v))

part_added : (k : ℕ) (x y : List ℕ) → k + 16 ≤ 32 → length x ≡ 32 → length y ≡ 32 →
    register 0 (chunk k 16 (zip2 bit_xor x y)) ≡ bit_xor (register 0 (chunk k 16 x)) (register 0 (chunk k 16 y))
part_added k x y h lx ly =
    ap (register 0) (chunk-zip k 16 x y)
    ∙ zero-xor (chunk k 16 x) (chunk k 16 y) (length-chunk k 16 x (omega arith) ∙ sym (length-chunk k 16 y (omega arith)))

halves-xor : (x y : List ℕ) → length x ≡ 32 → length y ≡ 32 → halves_leave (zip2 bit_xor x y) ≡ bit_xor (halves_leave x) (halves_leave y)
halves-xor x y lx ly =
    let a = register 0 (chunk 0 16 x) in
    let b = register 0 (chunk 0 16 y) in
    let c = register 0 (chunk 16 16 x) in
    let d = register 0 (chunk 16 16 y) in
    ap (λ v. bit_xor v (register 0 (chunk 16 16 (zip2 bit_xor x y)))) (part_added 0 x y (omega arith) lx ly)
    ∙ ap (bit_xor (bit_xor a b)) (part_added 16 x y (omega arith) lx ly)
    ∙ swap_middle a b c d

-- what two vectors leave of which the upper ones' bytes stand one place further to the front
abbrev pub both : List ℕ → List ℕ → ℕ
both x y = bit_xor (later 1 (halves_leave x)) (halves_leave y)

both-xor : (x y u v : List ℕ) → length x ≡ 32 → length y ≡ 32 → length u ≡ 32 → length v ≡ 32 → both (zip2 bit_xor x u) (zip2 bit_xor y v) ≡ bit_xor (both x y) (both u v)
both-xor x y u v lx ly lu lv =
    ap (λ w. bit_xor (later 1 w) (halves_leave (zip2 bit_xor y v))) (halves-xor x u lx lu)
    ∙ ap (bit_xor (later 1 (bit_xor (halves_leave x) (halves_leave u)))) (halves-xor y v ly lv)
    ∙ ap (λ w. bit_xor w (bit_xor (halves_leave y) (halves_leave v))) (later-xor 1 (halves_leave x) (halves_leave u))
    ∙ swap_middle (later 1 (halves_leave x)) (later 1 (halves_leave u)) (halves_leave y) (halves_leave v)

-- the sums of both halves leave what the halves leave
pub pair_of_halves : (x y : List ℕ) → length x ≡ 32 → length y ≡ 32 → pair (zip2 bit_xor (chunk 0 16 x) (chunk 16 16 x)) (zip2 bit_xor (chunk 0 16 y) (chunk 16 16 y)) ≡ both x y
pair_of_halves x y lx ly =
    let l = λ (v : List ℕ) (h : length v ≡ 32). length-chunk 0 16 v (omega arith) ∙ sym (length-chunk 16 16 v (omega arith)) in
    ap (λ w. bit_xor (later 1 w) (register 0 (zip2 bit_xor (chunk 0 16 y) (chunk 16 16 y)))) (zero-xor (chunk 0 16 x) (chunk 16 16 x) (l x lx))
    ∙ ap (bit_xor (later 1 (halves_leave x))) (zero-xor (chunk 0 16 y) (chunk 16 16 y) (l y ly))

halves_of : (a b : List ℕ) → length a ≡ 16 → length b ≡ 16 → halves_leave (a ++ b) ≡ bit_xor (register 0 a) (register 0 b)
halves_of a b la lb =
    ap (λ v. bit_xor (register 0 v) (register 0 (chunk 16 16 (a ++ b)))) (take_at a b 16 la)
    ∙ ap (λ v. bit_xor (register 0 a) (register 0 (take 16 v))) (drop_at a b 16 la)
    ∙ ap (λ n. bit_xor (register 0 a) (register 0 (take n b))) (sym lb)
    ∙ ap (λ v. bit_xor (register 0 a) (register 0 v)) (take-length b)

pub length-sixteens : (high low v : List ℕ) → length v ≡ 32 → length (by_sixteens high low v) ≡ 32
length-sixteens high low v l =
    let f = by_halves high low in
    let g = by_halves (drop 16 high) (drop 16 low) in
    let a = length-map (chunk 0 16 v) f ∙ length-chunk 0 16 v (omega arith) in
    let b = length-map (chunk 16 16 v) g ∙ length-chunk 16 16 v (omega arith) in
    omega (arith, length-append (map f (chunk 0 16 v)) (map g (chunk 16 16 v)))

-- a vector with k bytes behind it, by the tables of its halves
pub sixteens_leave : (k : ℕ) (fh fl gh gl : List ℕ) → Splits (16 + k) 1 (by_halves fh fl) (by_halves gh gl) →
    Splits k 1 (by_halves (drop 16 fh) (drop 16 fl)) (by_halves (drop 16 gh) (drop 16 gl)) → (v : List ℕ) → IsBytes 32 v →
    both (by_sixteens fh fl v) (by_sixteens gh gl v) ≡ later k (register 0 v)
sixteens_leave k fh fl gh gl s t v h =
    let f = by_halves fh fl in
    let g = by_halves gh gl in
    let p = by_halves (drop 16 fh) (drop 16 fl) in
    let q = by_halves (drop 16 gh) (drop 16 gl) in
    let a = chunk 0 16 v in
    let b = chunk 16 16 v in
    let la : length a ≡ 16 = length-chunk 0 16 v (omega (arith, h.0)) in
    let lb : length b ≡ 16 = length-chunk 16 16 v (omega (arith, h.0)) in
    let A = register 0 a in
    let B = register 0 b in
    let Fa = register 0 (map f a) in
    let Ga = register 0 (map g a) in
    let Pb = register 0 (map p b) in
    let Qb = register 0 (map q b) in
    let first : later (16 + k) A ≡ bit_xor (later 1 Fa) Ga = split_register (16 + k) 1 f g s a (Each1-chunk (Fits w8) 0 16 v h.1) in
    let second : later k B ≡ bit_xor (later 1 Pb) Qb = split_register k 1 p q t b (Each1-chunk (Fits w8) 16 16 v h.1) in
    let n : k + 16 ≡ 16 + k = omega arith in
    let whole : a ++ b ≡ v = sym (chunk-cat 0 16 16 v) ∙ ap (λ m. take m v) (sym h.0) ∙ take-length v in
    ap (λ w. bit_xor (later 1 w) (halves_leave (by_sixteens gh gl v))) (halves_of (map f a) (map p b) (length-map a f ∙ la) (length-map b p ∙ lb))
    ∙ ap (bit_xor (later 1 (bit_xor Fa Pb))) (halves_of (map g a) (map q b) (length-map a g ∙ la) (length-map b q ∙ lb))
    ∙ ap (λ w. bit_xor w (bit_xor Ga Qb)) (later-xor 1 Fa Pb)
    ∙ swap_middle (later 1 Fa) (later 1 Pb) Ga Qb
    ∙ ap (λ w. bit_xor w (bit_xor (later 1 Pb) Qb)) (sym first)
    ∙ ap (bit_xor (later (16 + k) A)) (sym second)
    ∙ ap (λ w. bit_xor w (later k B)) (sym (later-add k 16 A ∙ ap (λ m. later m A) n))
    ∙ sym (later-xor k (later 16 A) B)
    ∙ ap (later k) (sym (zero-append a b ∙ ap (λ m. bit_xor (later m A) B) lb) ∙ ap (register 0) whole)

pub length-sums : (a b c d : List ℕ) → length a ≡ 32 → length b ≡ 32 → length c ≡ 32 → length d ≡ 32 → length (zip2 bit_xor (zip2 bit_xor a b) (zip2 bit_xor c d)) ≡ 32
length-sums a b c d la lb lc ld =
    let p = length-zip2 bit_xor a b (la ∙ sym lb) ∙ la in
    let q = length-zip2 bit_xor c d (lc ∙ sym ld) ∙ lc in
    length-zip2 bit_xor (zip2 bit_xor a b) (zip2 bit_xor c d) (p ∙ sym q) ∙ p

-- the sums of what four vectors leave with 96, 64, 32 and no bytes behind them
pub four_leave : (a b c d a1 b1 c1 d1 a2 b2 c2 d2 : List ℕ) → length b ≡ 32 → length c ≡ 32 → length d ≡ 32 →
    length a1 ≡ 32 → length b1 ≡ 32 → length c1 ≡ 32 → length d1 ≡ 32 → length a2 ≡ 32 → length b2 ≡ 32 → length c2 ≡ 32 → length d2 ≡ 32 →
    both a1 a2 ≡ later 96 (register 0 a) → both b1 b2 ≡ later 64 (register 0 b) → both c1 c2 ≡ later 32 (register 0 c) → both d1 d2 ≡ later 0 (register 0 d) →
    both (zip2 bit_xor (zip2 bit_xor a1 b1) (zip2 bit_xor c1 d1)) (zip2 bit_xor (zip2 bit_xor a2 b2) (zip2 bit_xor c2 d2)) ≡ register 0 (a ++ (b ++ (c ++ d)))
four_leave a b c d a1 b1 c1 d1 a2 b2 c2 d2 lb lc ld la1 lb1 lc1 ld1 la2 lb2 lc2 ld2 ea eb ec ed =
    let A = register 0 a in
    let B = register 0 b in
    let C = register 0 c in
    let D = register 0 d in
    let long = λ (x y : List ℕ) (p : length x ≡ 32) (q : length y ≡ 32). length-zip2 bit_xor x y (p ∙ sym q) ∙ p in
    let lcd : length (c ++ d) ≡ 64 = omega (arith, length-append c d) in
    let lbcd : length (b ++ (c ++ d)) ≡ 96 = omega (arith, length-append b (c ++ d)) in
    let whole : register 0 (a ++ (b ++ (c ++ d))) ≡ bit_xor (later 96 A) (bit_xor (later 64 B) (bit_xor (later 32 C) D)) =
    zero-append a (b ++ (c ++ d)) ∙ ap (λ n. bit_xor (later n A) (register 0 (b ++ (c ++ d)))) lbcd
    ∙ ap (bit_xor (later 96 A)) (zero-append b (c ++ d) ∙ ap (λ n. bit_xor (later n B) (register 0 (c ++ d))) lcd
    ∙ ap (bit_xor (later 64 B)) (zero-append c d ∙ ap (λ n. bit_xor (later n C) D) ld)) in
    both-xor (zip2 bit_xor a1 b1) (zip2 bit_xor a2 b2) (zip2 bit_xor c1 d1) (zip2 bit_xor c2 d2) (long a1 b1 la1 lb1) (long a2 b2 la2 lb2) (long c1 d1 lc1 ld1) (long c2 d2 lc2 ld2)
    ∙ ap (λ w. bit_xor w (both (zip2 bit_xor c1 d1) (zip2 bit_xor c2 d2))) (both-xor a1 a2 b1 b2 la1 la2 lb1 lb2)
    ∙ ap (bit_xor (bit_xor (both a1 a2) (both b1 b2))) (both-xor c1 c2 d1 d2 lc1 lc2 ld1 ld2)
    ∙ ap (λ w. bit_xor (bit_xor w (both b1 b2)) (bit_xor (both c1 c2) (both d1 d2))) ea
    ∙ ap (λ w. bit_xor (bit_xor (later 96 A) w) (bit_xor (both c1 c2) (both d1 d2))) eb
    ∙ ap (λ w. bit_xor (bit_xor (later 96 A) (later 64 B)) (bit_xor w (both d1 d2))) ec
    ∙ ap (λ w. bit_xor (bit_xor (later 96 A) (later 64 B)) (bit_xor (later 32 C) w)) ed
    ∙ xor_assoc (later 96 A) (later 64 B) (bit_xor (later 32 C) D)
    ∙ sym whole
