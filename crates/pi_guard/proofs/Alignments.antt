-- Vectors that are put together from the halves of two.
use Rattle.std.proofs.Common.{◌≡◌, ℕ, ◌+◌, ◌-◌, ◌≤◌, List, ◌++◌, length, take, drop, refl, sym, ap, ◌∙◌, arith}
use Rattle.std.specs.List.{range_with_len}
use Rattle.std.proofs.lemmas.List.{map-append, drop-drop, drop-append-le, drop-take, take-take}
use Rattle.std.proofs.lemmas.Simd.{length-chunk, pick_l-range_with_len}
use lib.Lanes.{chunk, pick_l}
use Rattle.std.specs.Prelude.{get_or}
use Rattle.pi_guard.specs.Broad.{aligned_by}
use Rattle.pi_guard.proofs.Trailing.{chunk_past, chunk_within, chunk-cat, chunk-later}

pub pieces : (p q : ℕ) (uv : List ℕ) → length uv ≡ 64 → p + q ≡ 16 →
    pick_l 0 uv (range_with_len p q ++ (range_with_len 32 p ++ (range_with_len (16 + p) q ++ range_with_len 48 p))) ≡ aligned_by p q uv
pieces p q uv l e =
    let f = λ (k : ℕ). get_or uv k 0 in
    let one = range_with_len p q in
    let two = range_with_len 32 p in
    let three = range_with_len (16 + p) q in
    let four = range_with_len 48 p in
    map-append f one (two ++ (three ++ four))
    ∙ ap (λ v. pick_l 0 uv one ++ v) (map-append f two (three ++ four) ∙ ap (λ v. pick_l 0 uv two ++ v) (map-append f three four))
    ∙ rw (pick_l-range_with_len 0 uv p q (omega arith), pick_l-range_with_len 0 uv 32 p (omega arith), pick_l-range_with_len 0 uv (16 + p) q (omega arith), pick_l-range_with_len 0 uv 48 p (omega arith)) refl

pub chunk-chunk : (k n j m : ℕ) (xs : List ℕ) → k + n ≤ m → chunk k n (chunk j m xs) ≡ chunk (k + j) n xs
chunk-chunk k n j m xs h =
    let s = m - k in
    let e : m ≡ k + s = omega arith in
    ap (λ l. take n (drop k (take l (drop j xs)))) e
    ∙ ap (take n) (drop-take k s (drop j xs))
    ∙ take-take n s (drop k (drop j xs)) (omega arith)
    ∙ chunk-later j k n xs

-- u begins at o in w and v in the middle of u, so what is put together begins p places after u
pub aligned : (o p q : ℕ) (w u v : List ℕ) → p + q ≡ 16 → o + 48 ≤ length w → u ≡ chunk o 32 w → v ≡ chunk (o + 16) 32 w → aligned_by p q (u ++ v) ≡ chunk (o + p) 32 w
aligned o p q w u v e l eu ev =
    let lu : length u ≡ 32 = ap length eu ∙ length-chunk o 32 w (omega arith) in
    let at = λ (n i k : ℕ) (s : i ≡ k). ap (λ j. chunk j n w) s in
    let c1 : chunk p q (u ++ v) ≡ chunk (o + p) q w =
    chunk_within p q u v (omega arith) ∙ ap (chunk p q) eu ∙ chunk-chunk p q o 32 w (omega arith) ∙ at q (p + o) (o + p) (omega arith) in
    let c2 : chunk 32 p (u ++ v) ≡ chunk (o + p + q) p w =
    chunk_past 32 0 p u v lu ∙ ap (chunk 0 p) ev ∙ chunk-chunk 0 p (o + 16) 32 w (omega arith) ∙ at p (0 + (o + 16)) (o + p + q) (omega arith) in
    let c3 : chunk (16 + p) q (u ++ v) ≡ chunk (o + p + q + p) q w =
    chunk_within (16 + p) q u v (omega arith) ∙ ap (chunk (16 + p) q) eu ∙ chunk-chunk (16 + p) q o 32 w (omega arith) ∙ at q (16 + p + o) (o + p + q + p) (omega arith) in
    let c4 : chunk 48 p (u ++ v) ≡ chunk (o + p + q + p + q) p w =
    chunk_past 32 16 p u v lu ∙ ap (chunk 16 p) ev ∙ chunk-chunk 16 p (o + 16) 32 w (omega arith) ∙ at p (16 + (o + 16)) (o + p + q + p + q) (omega arith) in
    let n : 32 ≡ q + (p + (q + p)) = omega arith in
    ap (λ x. x ++ (chunk 32 p (u ++ v) ++ (chunk (16 + p) q (u ++ v) ++ chunk 48 p (u ++ v)))) c1
    ∙ ap (λ x. chunk (o + p) q w ++ (x ++ (chunk (16 + p) q (u ++ v) ++ chunk 48 p (u ++ v)))) c2
    ∙ ap (λ x. chunk (o + p) q w ++ (chunk (o + p + q) p w ++ (x ++ chunk 48 p (u ++ v)))) c3
    ∙ ap (λ x. chunk (o + p) q w ++ (chunk (o + p + q) p w ++ (chunk (o + p + q + p) q w ++ x))) c4
    ∙ sym (ap (λ m. chunk (o + p) m w) n
    ∙ chunk-cat (o + p) q (p + (q + p)) w
    ∙ ap (λ x. chunk (o + p) q w ++ x) (chunk-cat (o + p + q) p (q + p) w
    ∙ ap (λ x. chunk (o + p + q) p w ++ x) (chunk-cat (o + p + q + p) q p w)))

-- a piece of two neighbouring pieces
pub between : (k i : ℕ) (xs : List ℕ) → k ≤ 32 → chunk k 32 (chunk i 32 xs ++ chunk (i + 32) 32 xs) ≡ chunk (k + i) 32 xs
between k i xs h = ap (chunk k 32) (sym (chunk-cat i 32 32 xs)) ∙ chunk-chunk k 32 i 64 xs (omega arith)

-- a piece behind the first two bytes, of lists that are the same from there on
pub past_two : (k n : ℕ) (a x y : List ℕ) → length a ≡ 32 → length x ≡ 32 → drop 2 a ≡ drop 2 x → chunk (2 + k) n (a ++ y) ≡ chunk (2 + k) n (x ++ y)
past_two k n a x y la lx e =
    let two : (v : List ℕ) → length v ≡ 32 → chunk (2 + k) n (v ++ y) ≡ take n (drop k (drop 2 v ++ y)) = λ v l.
    ap (take n) (sym (drop-drop k 2 (v ++ y)) ∙ ap (drop k) (drop-append-le 2 v y (omega arith))) in
    two a la ∙ ap (λ v. take n (drop k (v ++ y))) e ∙ sym (two x lx)
