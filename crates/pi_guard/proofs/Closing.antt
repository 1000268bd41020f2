-- The end of a window.
use Rattle.std.proofs.Common.{◌≡◌, ℕ, suc, List, [], ◌∷◌, ◌++◌, length, map, take, drop, replicate, get_or, refl, sym, ap, ◌∙◌, arith, length-append, take-add}
use Rattle.std.specs.Prelude.{bit_xor}
use Rattle.std.specs.Int.Bits.{xor_assoc, xor_comm, xor_zero_l, xor_zero_r}
use Rattle.std.proofs.lemmas.List.{length-map, take_at, drop_at}
use Rattle.std.proofs.lemmas.Simd.{length-zip2}
use lib.Lanes.{zip2, chunk}
use Rattle.pi_guard.specs.Register.{register}
use Rattle.pi_guard.specs.AfterZeros.{later, entry}
use Rattle.pi_guard.proofs.Linear.{swap_middle, later-xor, by_tables}
use Rattle.pi_guard.proofs.Folds.{Splits, split_register, of_zero, later_zero}
use Rattle.pi_guard.proofs.Lookup.{IsBlock}
use Rattle.pi_guard.proofs.Trailing.{zero-append, zero-xor, byte_zero, zeros_leave}

-- what bytes leave of which the upper ones stand one place further to the front
abbrev pub pair : List ℕ → List ℕ → ℕ
pair x y = bit_xor (later 1 (register 0 x)) (register 0 y)

taken_in : (k : ℕ) (f g : ℕ → ℕ) → Splits k 1 f g → (a x y : List ℕ) → IsBlock a → length x ≡ 16 → length y ≡ 16 →
    pair (zip2 bit_xor x (map f a)) (zip2 bit_xor y (map g a)) ≡ bit_xor (pair x y) (later k (register 0 a))
taken_in k f g s a x y h lx ly =
    let F = register 0 (map f a) in
    let G = register 0 (map g a) in
    let X = register 0 x in
    let Y = register 0 y in
    let lf : length (map f a) ≡ 16 = length-map a f ∙ h.0 in
    let lg : length (map g a) ≡ 16 = length-map a g ∙ h.0 in
    let e : later k (register 0 a) ≡ bit_xor (later 1 F) G = split_register k 1 f g s a h.1 in
    ap (λ v. bit_xor (later 1 v) (register 0 (zip2 bit_xor y (map g a)))) (zero-xor x (map f a) (lx ∙ sym lf))
    ∙ ap (bit_xor (later 1 (bit_xor X F))) (zero-xor y (map g a) (ly ∙ sym lg))
    ∙ ap (λ v. bit_xor v (bit_xor Y G)) (later-xor 1 X F)
    ∙ swap_middle (later 1 X) (later 1 F) Y G
    ∙ ap (bit_xor (pair x y)) (sym e)

folded_length : (f : ℕ → ℕ) (a x : List ℕ) → IsBlock a → length x ≡ 16 → length (zip2 bit_xor x (map f a)) ≡ 16
folded_length f a x h l = length-zip2 bit_xor x (map f a) (l ∙ sym (length-map a f ∙ h.0)) ∙ l

turned : (p q r s : ℕ) → bit_xor (bit_xor (bit_xor p q) r) s ≡ bit_xor s (bit_xor r (bit_xor q p))
turned p q r s = xor_comm (bit_xor (bit_xor p q) r) s ∙ ap (bit_xor s) (xor_comm (bit_xor p q) r ∙ ap (bit_xor r) (xor_comm p q))

pub closes : (fa ga fb gb fc gc : ℕ → ℕ) → Splits 48 1 fa ga → Splits 32 1 fb gb → Splits 16 1 fc gc → (a b c d : List ℕ) → IsBlock a → IsBlock b → IsBlock c → length d ≡ 16 →
    pair (zip2 bit_xor (zip2 bit_xor (zip2 bit_xor (replicate 16 0) (map fc c)) (map fb b)) (map fa a)) (zip2 bit_xor (zip2 bit_xor (zip2 bit_xor d (map gc c)) (map gb b)) (map ga a))
    ≡ register 0 (a ++ (b ++ (c ++ d)))
closes fa ga fb gb fc gc sa sb sc a b c d ha hb hc ld =
    let A = register 0 a in
    let B = register 0 b in
    let C = register 0 c in
    let D = register 0 d in
    let z = replicate {A = ℕ} 16 0 in
    let x1 = zip2 bit_xor z (map fc c) in
    let y1 = zip2 bit_xor d (map gc c) in
    let x2 = zip2 bit_xor x1 (map fb b) in
    let y2 = zip2 bit_xor y1 (map gb b) in
    let lx1 = folded_length fc c z hc refl in
    let ly1 = folded_length gc c d hc ld in
    let lx2 = folded_length fb b x1 hb lx1 in
    let ly2 = folded_length gb b y1 hb ly1 in
    let z0 : pair z d ≡ D = ap (λ v. bit_xor (later 1 v) D) (zeros_leave 16) ∙ ap (λ v. bit_xor v D) (later_zero 1) ∙ xor_zero_l D in
    let lcd : length (c ++ d) ≡ 32 = omega (arith, length-append c d, hc.0) in
    let lbcd : length (b ++ (c ++ d)) ≡ 48 = omega (arith, length-append b (c ++ d), hb.0) in
    let whole : register 0 (a ++ (b ++ (c ++ d))) ≡ bit_xor (later 48 A) (bit_xor (later 32 B) (bit_xor (later 16 C) D)) =
    zero-append a (b ++ (c ++ d)) ∙ ap (λ n. bit_xor (later n A) (register 0 (b ++ (c ++ d)))) lbcd
    ∙ ap (bit_xor (later 48 A)) (zero-append b (c ++ d) ∙ ap (λ n. bit_xor (later n B) (register 0 (c ++ d))) lcd
    ∙ ap (bit_xor (later 32 B)) (zero-append c d ∙ ap (λ n. bit_xor (later n C) D) ld)) in
    taken_in 48 fa ga sa a x2 y2 ha lx2 ly2
    ∙ ap (λ v. bit_xor v (later 48 A)) (taken_in 32 fb gb sb b x1 y1 hb lx1 ly1)
    ∙ ap (λ v. bit_xor (bit_xor v (later 32 B)) (later 48 A)) (taken_in 16 fc gc sc c z d hc refl ld)
    ∙ ap (λ v. bit_xor (bit_xor (bit_xor v (later 16 C)) (later 32 B)) (later 48 A)) z0
    ∙ turned D (later 16 C) (later 32 B) (later 48 A)
    ∙ sym whole

-- bytes with one place more behind them: the first by its table
pub front_moved : (b : ℕ) (xs : List ℕ) → later 1 (register 0 (b ∷ xs)) ≡ bit_xor (entry (suc (length xs)) b) (register 0 (xs ++ 0 ∷ []))
front_moved b xs =
    let ws = xs ++ 0 ∷ [] in
    let r = later 1 (register 0 (b ∷ xs)) in
    let long : length ws ≡ suc (length xs) = omega (arith, length-append xs (0 ∷ [])) in
    let m : register 0 (b ∷ ws) ≡ r = zero-append (b ∷ xs) (0 ∷ []) ∙ ap (bit_xor r) byte_zero ∙ xor_zero_r r in
    sym m ∙ of_zero (b ∷ ws) ∙ ap (λ n. bit_xor (entry n b) (by_tables ws)) long ∙ ap (bit_xor (entry (suc (length xs)) b)) (sym (of_zero ws))

pub ends : (x y : List ℕ) → length x ≡ 16 → length y ≡ 16 →
    bit_xor (entry 16 (get_or x 0 0)) (register 0 (zip2 bit_xor (chunk 1 16 (x ++ replicate 16 0)) y)) ≡ pair x y
ends [] y lx ly = absurd (omega arith)
ends (b ∷ xs) y lx ly =
    let z = replicate {A = ℕ} 16 0 in
    let l : length xs ≡ 15 = omega arith in
    let n : 16 ≡ suc (length xs) = omega arith in
    let ws = xs ++ 0 ∷ [] in
    let Y = register 0 y in
    let lw : length ws ≡ 16 = omega (arith, length-append xs (0 ∷ [])) in
    let e : take 16 (xs ++ z) ≡ ws =
    take-add 15 1 (xs ++ z) ∙ ap (λ v. v ++ take 1 (drop 15 (xs ++ z))) (take_at xs z 15 l) ∙ ap (λ v. xs ++ take 1 v) (drop_at xs z 15 l) in
    ap (λ v. bit_xor (entry 16 b) (register 0 (zip2 bit_xor v y))) e
    ∙ ap (bit_xor (entry 16 b)) (zero-xor ws y (lw ∙ sym ly))
    ∙ sym (xor_assoc (entry 16 b) (register 0 ws) Y)
    ∙ ap (λ k. bit_xor (bit_xor (entry k b) (register 0 ws)) Y) n
    ∙ ap (λ v. bit_xor v Y) (sym (front_moved b xs))

-- 32 bytes: the first sixteen are folded into the last ones
pub two_close : (f g : ℕ → ℕ) → Splits 16 1 f g → (a b : List ℕ) → IsBlock a → length b ≡ 16 →
    pair (zip2 bit_xor (replicate 16 0) (map f a)) (zip2 bit_xor b (map g a)) ≡ register 0 (a ++ b)
two_close f g s a b h l =
    let A = register 0 a in
    let B = register 0 b in
    let none : pair (replicate 16 0) b ≡ B = ap (λ v. bit_xor (later 1 v) B) (zeros_leave 16) ∙ ap (λ v. bit_xor v B) (later_zero 1) ∙ xor_zero_l B in
    taken_in 16 f g s a (replicate 16 0) b h refl l
    ∙ ap (λ v. bit_xor v (later 16 A)) none
    ∙ xor_comm B (later 16 A)
    ∙ sym (zero-append a b ∙ ap (λ n. bit_xor (later n A) B) l)
