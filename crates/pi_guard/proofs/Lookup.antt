-- The vector operations, lane by lane.
use Rattle.std.proofs.Common.{◌≡◌, ℕ, zero, suc, ◌+◌, ◌*◌, ◌/◌, ◌^◌, ◌<◌, List, [], ◌∷◌, map, ◌++◌, length, take, drop, get_or, replicate, cond, bit_and, refl, sym, ap, ◌∙◌, arith, take-add, w8, Fits}
use Rattle.std.specs.Prelude.{bit_xor}
use Rattle.std.specs.Int.Bits.{xor_zero_l}
use Rattle.std.proofs.lemmas.List.{get_or-map, get_or-drop, map-append, length-map, length-replicate, ext_get_or}
use Rattle.std.proofs.Math.Seq.{take-length}
use Rattle.std.proofs.lemmas.Nat.{and_le_r}
use Rattle.std.proofs.lemmas.Simd.{Each1-all, Each1-weaker, Each1-zip2, Each1-get_or, Each1-chunk, Each2-splat, below_from_Fits, length-chunk, length-zip2, zip2_splat, zip2-map, swz_l, SwzOk, SwzOk-from_below, length-swz_l, get_or-swz_l_below}
use lib.Lanes.{zip2, chunk, Each1}
use mir.Val.{zeroes}
use Rattle.pi_guard.specs.Windows.{by_halves}
use Rattle.pi_guard.specs.Broad.{by_sixteens}
use Rattle.pi_guard.proofs.Trailing.{zip-cat}

-- so many bytes, and a block of sixteen
abbrev pub IsBytes : ℕ → List ℕ → Type 0
IsBytes n v = (length v ≡ n) × Each1 (Fits w8) v

abbrev pub IsBlock : List ℕ → Type 0
IsBlock v = IsBytes 16 v

abbrev down : ℕ → ℕ → ℕ
down a b = a / 2 ^ b

pub high_ok : (blocks n : ℕ) → n ≡ blocks * 16 → (v : List ℕ) → IsBytes n v → SwzOk w8 16 n 0 (zip2 down v (replicate n 4))
high_ok blocks n e v fits =
    let small = Each1-weaker (λ a. a < 256) (λ a. a / 16 < 16) (λ a h. omega arith) v (below_from_Fits w8 v fits.1) in
    SwzOk-from_below w8 16 blocks n 0 (zip2 down v (replicate n 4)) e (omega (arith, length-zip2 down v (replicate n 4) (fits.0 ∙ sym (length-replicate n 4)), fits.0))
    (Each1-zip2 down (λ j. j < 16) v (replicate n 4) (Each2-splat (λ a b. down a b < 16) v n 4 small))

pub low_ok : (blocks n : ℕ) → n ≡ blocks * 16 → (v : List ℕ) → IsBytes n v → SwzOk w8 16 n 0 (zip2 bit_and v (replicate n 15))
low_ok blocks n e v fits =
    let small = Each1-all (λ a. bit_and a 15 < 16) (λ a. omega (arith, and_le_r a 15)) v in
    SwzOk-from_below w8 16 blocks n 0 (zip2 bit_and v (replicate n 15)) e (omega (arith, length-zip2 bit_and v (replicate n 15) (fits.0 ∙ sym (length-replicate n 15)), fits.0))
    (Each1-zip2 bit_and (λ j. j < 16) v (replicate n 15) (Each2-splat (λ a b. bit_and a b < 16) v n 15 small))

-- the positions of block o
looked_up : (o : ℕ) (t : List ℕ) (g : ℕ → ℕ) (v js : List ℕ) → IsBlock v → js ≡ map g v → ((x : ℕ) → x < 256 → g x < 16)
    → swz_l w8 16 t (16 * o) js ≡ map (λ x. get_or (drop (16 * o) t) (g x) 0) v
looked_up o t g v js fits e small =
    let long : length js ≡ 16 = ap length e ∙ length-map v g ∙ fits.0 in
    ext_get_or 0 _ _ (length-swz_l w8 16 t (16 * o) js ∙ long ∙ sym (length-map v (λ x. get_or (drop (16 * o) t) (g x) 0) ∙ fits.0)) (λ i h.
    let lt : i < 16 = omega (arith, length-swz_l w8 16 t (16 * o) js) in
    let within : i < length v = omega (arith, fits.0) in
    let is : get_or js i 0 ≡ g (get_or v i 0) = ap (λ l. get_or l i 0) e ∙ get_or-map g v i 0 0 within in
    let byte : Fits w8 (get_or v i 0) = Each1-get_or (Fits w8) v i 0 within fits.1 in
    let below : get_or js i 0 < 16 = omega (arith, small (get_or v i 0) byte.fits) in
    let place : 16 * ((16 * o + i) / 16) + get_or js i 0 ≡ 16 * o + g (get_or v i 0) = omega arith in
    get_or-swz_l_below w8 16 t (16 * o) js i (omega arith) below
    ∙ ap (λ k. get_or t k 0) place ∙ sym (get_or-drop (16 * o) t (g (get_or v i 0)) 0)
    ∙ sym (get_or-map (λ x. get_or (drop (16 * o) t) (g x) 0) v i 0 0 within))

swz-append : (t : List ℕ) (i : ℕ) (js ks : List ℕ) → swz_l w8 16 t i (js ++ ks) ≡ swz_l w8 16 t i js ++ swz_l w8 16 t (i + length js) ks
swz-append t i [] ks = let e : i ≡ i + 0 = omega arith in ap (λ n. swz_l w8 16 t n ks) e
swz-append t i (j ∷ js) ks =
    let e : suc i + length js ≡ i + suc (length js) = omega arith in
    let head = cond (zeroes 16 w8 j) zero (get_or t (16 * (i / 16) + j) zero) in
    ap (λ l. head ∷ l) (swz-append t (suc i) js ks ∙ ap (λ n. swz_l w8 16 t (suc i) js ++ swz_l w8 16 t n ks) e)

-- the positions of two blocks
looked_up_twice : (t : List ℕ) (g : ℕ → ℕ) (v js : List ℕ) → IsBytes 32 v → js ≡ map g v → ((x : ℕ) → x < 256 → g x < 16)
    → swz_l w8 16 t 0 js ≡ map (λ x. get_or t (g x) 0) (chunk 0 16 v) ++ map (λ x. get_or (drop 16 t) (g x) 0) (chunk 16 16 v)
looked_up_twice t g v js fits e small =
    let a = chunk 0 16 v in
    let b = chunk 16 16 v in
    let la : length a ≡ 16 = length-chunk 0 16 v (omega (arith, fits.0)) in
    let lb : length b ≡ 16 = length-chunk 16 16 v (omega (arith, fits.0)) in
    let whole : a ++ b ≡ v = sym (take-add 16 16 v) ∙ ap (λ n. take n v) (sym fits.0) ∙ take-length v in
    let is : js ≡ map g a ++ map g b = e ∙ ap (map g) (sym whole) ∙ map-append g a b in
    let lm : 0 + length (map g a) ≡ 16 = omega (arith, length-map a g) in
    ap (swz_l w8 16 t 0) is ∙ swz-append t 0 (map g a) (map g b)
    ∙ ap (λ n. swz_l w8 16 t 0 (map g a) ++ swz_l w8 16 t n (map g b)) lm
    ∙ ap (λ l. l ++ swz_l w8 16 t 16 (map g b)) (looked_up 0 t g a (map g a) (la, Each1-chunk (Fits w8) 0 16 v fits.1) refl small)
    ∙ ap (λ l. map (λ x. get_or t (g x) 0) a ++ l) (looked_up 1 t g b (map g b) (lb, Each1-chunk (Fits w8) 16 16 v fits.1) refl small)

pub by_tables_are : (high low to v : List ℕ) → IsBlock v →
    zip2 bit_xor to (zip2 bit_xor (swz_l w8 16 high 0 (zip2 down v (replicate 16 4))) (swz_l w8 16 low 0 (zip2 bit_and v (replicate 16 15)))) ≡ zip2 bit_xor to (map (by_halves high low) v)
by_tables_are high low to v fits =
    let h = looked_up 0 high (λ x. x / 16) v (zip2 down v (replicate 16 4)) fits (zip2_splat down v 16 4 fits.0) (λ x b. omega arith) in
    let l = looked_up 0 low (λ x. bit_and x 15) v (zip2 bit_and v (replicate 16 15)) fits (zip2_splat bit_and v 16 15 fits.0) (λ x b. omega (arith, and_le_r x 15)) in
    ap (λ w. zip2 bit_xor to (zip2 bit_xor w (swz_l w8 16 low 0 (zip2 bit_and v (replicate 16 15))))) h
    ∙ ap (λ w. zip2 bit_xor to (zip2 bit_xor (map (λ x. get_or high (x / 16) 0) v) w)) l
    ∙ ap (zip2 bit_xor to) (zip2-map bit_xor (λ x. get_or high (x / 16) 0) (λ x. get_or low (bit_and x 15) 0) v)

pub by_sixteens_are : (high low v : List ℕ) → IsBytes 32 v →
    zip2 bit_xor (swz_l w8 16 high 0 (zip2 down v (replicate 32 4))) (swz_l w8 16 low 0 (zip2 bit_and v (replicate 32 15))) ≡ by_sixteens high low v
by_sixteens_are high low v fits =
    let a = chunk 0 16 v in
    let b = chunk 16 16 v in
    let h1 = λ (x : ℕ). get_or high (x / 16) 0 in
    let h2 = λ (x : ℕ). get_or (drop 16 high) (x / 16) 0 in
    let l1 = λ (x : ℕ). get_or low (bit_and x 15) 0 in
    let l2 = λ (x : ℕ). get_or (drop 16 low) (bit_and x 15) 0 in
    let upper = looked_up_twice high (λ x. x / 16) v (zip2 down v (replicate 32 4)) fits (zip2_splat down v 32 4 fits.0) (λ x b. omega arith) in
    let lower = looked_up_twice low (λ x. bit_and x 15) v (zip2 bit_and v (replicate 32 15)) fits (zip2_splat bit_and v 32 15 fits.0) (λ x b. omega (arith, and_le_r x 15)) in
    ap (λ w. zip2 bit_xor w (swz_l w8 16 low 0 (zip2 bit_and v (replicate 32 15)))) upper
    ∙ ap (zip2 bit_xor (map h1 a ++ map h2 b)) lower
    ∙ zip-cat (map h1 a) (map h2 b) (map l1 a) (map l2 b) (length-map a h1 ∙ sym (length-map a l1))
    ∙ ap (λ l. l ++ zip2 bit_xor (map h2 b) (map l2 b)) (zip2-map bit_xor h1 l1 a)
    ∙ ap (λ l. map (by_halves high low) a ++ l) (zip2-map bit_xor h2 l2 b)

pub zeros_xor : (n : ℕ) (zs : List ℕ) → length zs ≡ n → zip2 bit_xor (replicate n 0) zs ≡ zs
zeros_xor zero [] e = refl
zeros_xor zero (z ∷ zs) e = absurd (omega arith)
zeros_xor (suc n) [] e = absurd (omega arith)
zeros_xor (suc n) (z ∷ zs) e =
    let h = xor_zero_l z in
    let t = zeros_xor n zs (omega arith) in
    cc
