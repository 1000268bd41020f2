-- What a list of bytes leaves in the register, and how bytes in front are folded into later ones.
use Rattle.std.proofs.Common.{◌≡◌, ℕ, zero, suc, ◌+◌, ◌*◌, ◌/◌, ◌%◌, ◌^◌, ◌<◌, Bool, true, false, ◌&&◌, eqb, List, [], ◌∷◌, length, map, take, get_or, refl, sym, ap, ◌∙◌, arith, w8, Fits}
use Rattle.std.specs.Prelude.{bit_xor, bit_and, slice_index}
use Rattle.std.specs.Int.Bits.{xor_assoc, xor_zero_l, xor_shifted}
use Rattle.std.proofs.lemmas.Bool.{eqb-true, and_parts}
use Rattle.std.proofs.lemmas.List.{length-map, get_or-take}
use Rattle.std.proofs.lemmas.Nat.{and_mask}
use Rattle.std.proofs.lemmas.Simd.{length-zip2}
use lib.Lanes.{zip2, Each1}
use Rattle.pi_guard.specs.Register.{register}
use Rattle.pi_guard.specs.AfterZeros.{pass, later, entry}
use Rattle.pi_guard.specs.Windows.{by_halves}
use Rattle.pi_guard.proofs.RegisterLemmas.{register-append}
use Rattle.pi_guard.proofs.Linear.{swap_middle, later-xor, entry-xor, by_tables, register_by_tables, later_halves}

-- ---- bytes of zeros

pub pass_zero : pass 0 ≡ 0
unfolding pass
pass_zero = refl

pub later_zero : (k : ℕ) → later k 0 ≡ 0
later_zero zero = refl
later_zero (suc k) = ap (later k) pass_zero ∙ later_zero k

later_pass : (k r : ℕ) → pass (later k r) ≡ later k (pass r)
later_pass zero r = refl
later_pass (suc k) r = later_pass k (pass r)

pub later_swap : (j k r : ℕ) → later j (later k r) ≡ later k (later j r)
later_swap zero k r = refl
later_swap (suc j) k r = ap (later j) (later_pass k r) ∙ later_swap j k (pass r)

pub of_zero : (xs : List ℕ) → register 0 xs ≡ by_tables xs
of_zero xs = register_by_tables 0 xs ∙ ap (λ v. bit_xor v (by_tables xs)) (later_zero (length xs)) ∙ xor_zero_l (by_tables xs)

pub by_tables-xor : (xs ys : List ℕ) → length xs ≡ length ys → by_tables (zip2 bit_xor xs ys) ≡ bit_xor (by_tables xs) (by_tables ys)
by_tables-xor [] [] e = refl
by_tables-xor [] (y ∷ ys) e = absurd (omega arith)
by_tables-xor (x ∷ xs) [] e = absurd (omega arith)
by_tables-xor (x ∷ xs) (y ∷ ys) e =
    let d : length xs ≡ length ys = omega arith in
    ap (λ v. bit_xor (entry v (bit_xor x y)) (by_tables (zip2 bit_xor xs ys))) (length-zip2 bit_xor xs ys d)
    ∙ ap (bit_xor (entry (length xs) (bit_xor x y))) (by_tables-xor xs ys d)
    ∙ ap (λ v. bit_xor v (bit_xor (by_tables xs) (by_tables ys))) (entry-xor (length xs) x y)
    ∙ swap_middle (entry (length xs) x) (entry (length xs) y) (by_tables xs) (by_tables ys)
    ∙ ap (λ v. bit_xor (bit_xor (entry (length xs) x) (by_tables xs)) (bit_xor (entry v y) (by_tables ys))) d

-- ---- a byte with k bytes behind it is two bytes, with j and none behind them

abbrev pub Splits : ℕ → ℕ → (ℕ → ℕ) → (ℕ → ℕ) → Type 0
Splits k j f g = (x : ℕ) → x < 256 → entry k x ≡ bit_xor (entry j (f x)) (entry 0 (g x))

entry_later : (n k x : ℕ) → later k (entry n x) ≡ later n (entry k x)
unfolding entry
entry_later n k x = later_swap k n (pass (x * 2 ^ 8))

entry_zero : (n x : ℕ) → later n (entry 0 x) ≡ entry n x
unfolding entry
entry_zero n x = refl

pub split_list : (k j : ℕ) (f g : ℕ → ℕ) → Splits k j f g → (xs : List ℕ) → Each1 (Fits w8) xs →
    later k (by_tables xs) ≡ bit_xor (later j (by_tables (map f xs))) (by_tables (map g xs))
split_list k j f g s [] h = later_zero k ∙ sym (ap (λ v. bit_xor v 0) (later_zero j))
split_list k j f g s (x ∷ xs) h =
    let n = length xs in
    let a = entry n (f x) in
    let b = entry n (g x) in
    let p = by_tables (map f xs) in
    let q = by_tables (map g xs) in
    let one : later k (entry n x) ≡ bit_xor (later j a) b =
    entry_later n k x ∙ ap (later n) (s x h.0.fits) ∙ later-xor n (entry j (f x)) (entry 0 (g x))
    ∙ ap (λ v. bit_xor v (later n (entry 0 (g x)))) (sym (entry_later n j (f x)))
    ∙ ap (bit_xor (later j a)) (entry_zero n (g x)) in
    let mf : entry (length (map f xs)) (f x) ≡ a = ap (λ v. entry v (f x)) (length-map xs f) in
    let mg : entry (length (map g xs)) (g x) ≡ b = ap (λ v. entry v (g x)) (length-map xs g) in
    later-xor k (entry n x) (by_tables xs)
    ∙ ap (λ v. bit_xor v (later k (by_tables xs))) one
    ∙ ap (bit_xor (bit_xor (later j a) b)) (split_list k j f g s xs h.1)
    ∙ swap_middle (later j a) b (later j p) q
    ∙ ap (λ v. bit_xor v (bit_xor b q)) (sym (later-xor j a p))
    ∙ ap (λ v. bit_xor (later j (bit_xor v p)) (bit_xor b q)) (sym mf)
    ∙ ap (λ v. bit_xor (later j (by_tables (map f (x ∷ xs)))) (bit_xor v q)) (sym mg)

pub split_register : (k j : ℕ) (f g : ℕ → ℕ) → Splits k j f g → (xs : List ℕ) → Each1 (Fits w8) xs →
    later k (register 0 xs) ≡ bit_xor (later j (register 0 (map f xs))) (register 0 (map g xs))
split_register k j f g s xs h =
    ap (later k) (of_zero xs) ∙ split_list k j f g s xs h
    ∙ ap (λ v. bit_xor (later j v) (by_tables (map g xs))) (sym (of_zero (map f xs)))
    ∙ ap (bit_xor (later j (register 0 (map f xs)))) (sym (of_zero (map g xs)))

-- the register in front of two bytes is added to them
pub joined : (r x y : ℕ) (xs : List ℕ) → r < 2 ^ 16 → register r (x ∷ y ∷ xs) ≡ register 0 (bit_xor (r / 256) x ∷ bit_xor (r % 256) y ∷ xs)
joined r x y xs h =
    let H = r / 256 in
    let L = r % 256 in
    let e : register r (x ∷ y ∷ []) ≡ register 0 (bit_xor H x ∷ bit_xor L y ∷ []) =
    register_by_tables r (x ∷ y ∷ [])
    ∙ ap (λ v. bit_xor v (bit_xor (entry 1 x) (bit_xor (entry 0 y) 0))) (later_halves 0 r h)
    ∙ swap_middle (entry 1 H) (entry 0 L) (entry 1 x) (bit_xor (entry 0 y) 0)
    ∙ ap (bit_xor (bit_xor (entry 1 H) (entry 1 x))) (sym (xor_assoc (entry 0 L) (entry 0 y) 0))
    ∙ ap (λ v. bit_xor v (bit_xor (bit_xor (entry 0 L) (entry 0 y)) 0)) (sym (entry-xor 1 H x))
    ∙ ap (λ v. bit_xor (entry 1 (bit_xor H x)) (bit_xor v 0)) (sym (entry-xor 0 L y))
    ∙ sym (of_zero (bit_xor H x ∷ bit_xor L y ∷ [])) in
    register-append r (x ∷ y ∷ []) xs ∙ ap (λ v. register v xs) e ∙ sym (register-append 0 (bit_xor H x ∷ bit_xor L y ∷ []) xs)

-- ---- the split of each byte, from a test of the sixteen values of each half

unfoldable pub again : (ℕ → ℕ) → ℕ → ℕ → ℕ
again f zero r = r
again f (suc k) r = again f k (f r)

again_pass : (k r : ℕ) → again pass k r ≡ later k r
unfolding again
again_pass zero r = refl
again_pass (suc k) r = again_pass k (pass r)

-- the places from i on of two tables
abbrev pub half_holds : (ℕ → ℕ) → ℕ → ℕ → ℕ → ℕ → List ℕ → List ℕ → Bool
half_holds p k j s i [] [] = true
half_holds p k j s i [] (y ∷ ys) = false
half_holds p k j s i (x ∷ xs) [] = false
half_holds p k j s i (x ∷ xs) (y ∷ ys) =
    eqb (again p k (p (i * s * 2 ^ 8))) (bit_xor (again p j (p (x * 2 ^ 8))) (p (y * 2 ^ 8))) && half_holds p k j s (suc i) xs ys

in_half : (p : ℕ → ℕ) (k j s i n : ℕ) (xs ys : List ℕ) → half_holds p k j s i xs ys ≡ true → n < length xs →
    again p k (p ((i + n) * s * 2 ^ 8)) ≡ bit_xor (again p j (p (get_or xs n 0 * 2 ^ 8))) (p (get_or ys n 0 * 2 ^ 8))
in_half p k j s i n [] ys h l = absurd (omega arith)
in_half p k j s i n (x ∷ xs) [] h l = cc
in_half p k j s i zero (x ∷ xs) (y ∷ ys) h l =
    let b = and_parts (eqb (again p k (p (i * s * 2 ^ 8))) (bit_xor (again p j (p (x * 2 ^ 8))) (p (y * 2 ^ 8)))) (half_holds p k j s (suc i) xs ys) h in
    let z : i + 0 ≡ i = omega arith in
    ap (λ v. again p k (p (v * s * 2 ^ 8))) z ∙ eqb-true _ _ b.0
in_half p k j s i (suc n) (x ∷ xs) (y ∷ ys) h l =
    let b = and_parts (eqb (again p k (p (i * s * 2 ^ 8))) (bit_xor (again p j (p (x * 2 ^ 8))) (p (y * 2 ^ 8)))) (half_holds p k j s (suc i) xs ys) h in
    let z : i + suc n ≡ suc i + n = omega arith in
    ap (λ v. again p k (p (v * s * 2 ^ 8))) z ∙ in_half p k j s (suc i) n xs ys b.1 (omega arith)

half_entry : (k j s n : ℕ) (xs ys : List ℕ) → half_holds pass k j s 0 xs ys ≡ true → n < length xs →
    entry k (n * s) ≡ bit_xor (entry j (get_or xs n 0)) (entry 0 (get_or ys n 0))
unfolding entry
half_entry k j s n xs ys h l =
    let z : 0 + n ≡ n = omega arith in
    sym (again_pass k (pass (n * s * 2 ^ 8))) ∙ ap (λ v. again pass k (pass (v * s * 2 ^ 8))) (sym z)
    ∙ in_half pass k j s 0 n xs ys h l
    ∙ ap (λ v. bit_xor v (pass (get_or ys n 0 * 2 ^ 8))) (again_pass j (pass (get_or xs n 0 * 2 ^ 8)))

pub splits_by : (k j : ℕ) (fh fl gh gl : List ℕ) → length fh ≡ 16 → length fl ≡ 16 →
    half_holds pass k j 16 0 fh gh ≡ true → half_holds pass k j 1 0 fl gl ≡ true → Splits k j (by_halves fh fl) (by_halves gh gl)
splits_by k j fh fl gh gl lh ll h l x b =
    let m : bit_and x 15 ≡ x % 16 = and_mask x 4 in
    let H = x / 16 in
    let L = x % 16 in
    let e : bit_xor (H * 2 ^ 4) L ≡ H * 2 ^ 4 + L = xor_shifted H 4 L (omega arith) in
    let w : bit_xor (H * 16) (L * 1) ≡ x =
    let z : L * 1 ≡ L = omega arith in ap (bit_xor (H * 16)) z ∙ e ∙ omega arith in
    let eh = half_entry k j 16 H fh gh h (omega arith) in
    let el = half_entry k j 1 L fl gl l (omega arith) in
    ap (entry k) (sym w) ∙ entry-xor k (H * 16) (L * 1)
    ∙ ap (λ v. bit_xor v (entry k (L * 1))) eh
    ∙ ap (bit_xor (bit_xor (entry j (get_or fh H 0)) (entry 0 (get_or gh H 0)))) el
    ∙ swap_middle (entry j (get_or fh H 0)) (entry 0 (get_or gh H 0)) (entry j (get_or fl L 0)) (entry 0 (get_or gl L 0))
    ∙ ap (λ v. bit_xor v (bit_xor (entry 0 (get_or gh H 0)) (entry 0 (get_or gl L 0)))) (sym (entry-xor j (get_or fh H 0) (get_or fl L 0)))
    ∙ ap (bit_xor (entry j (bit_xor (get_or fh H 0) (get_or fl L 0)))) (sym (entry-xor 0 (get_or gh H 0) (get_or gl L 0)))
    ∙ ap (λ v. bit_xor (entry j (bit_xor (get_or fh H 0) (get_or fl v 0))) (entry 0 (bit_xor (get_or gh H 0) (get_or gl v 0)))) (sym m)

in_first : (high low : List ℕ) (x : ℕ) → x < 256 → by_halves (take 16 high) (take 16 low) x ≡ by_halves high low x
in_first high low x b =
    let m : bit_and x 15 ≡ x % 16 = and_mask x 4 in
    ap (λ v. bit_xor v (slice_index (take 16 low) (bit_and x 15))) (get_or-take 16 high (x / 16) 0 (omega arith))
    ∙ ap (bit_xor (slice_index high (x / 16))) (get_or-take 16 low (bit_and x 15) 0 (omega arith))

-- of tables that go on, by their first sixteen entries
pub splits_by_first : (k j : ℕ) (fh fl gh gl : List ℕ) → Splits k j (by_halves (take 16 fh) (take 16 fl)) (by_halves (take 16 gh) (take 16 gl)) → Splits k j (by_halves fh fl) (by_halves gh gl)
splits_by_first k j fh fl gh gl s x b =
    s x b ∙ ap (λ v. bit_xor (entry j v) (entry 0 (by_halves (take 16 gh) (take 16 gl) x))) (in_first fh fl x b)
    ∙ ap (λ v. bit_xor (entry j (by_halves fh fl x)) (entry 0 v)) (in_first gh gl x b)
