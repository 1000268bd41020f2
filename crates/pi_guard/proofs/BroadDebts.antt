-- The steps of a trail of 256 bytes and its payment.
use Rattle.std.proofs.Common.{◌≡◌, ℕ, zero, suc, List, [], ◌∷◌, ◌++◌, length, replicate, refl, sym, ◌∙◌, arith, lit≤, length-append, ap}
use Rattle.std.specs.Prelude.{bit_xor}
use Rattle.std.specs.Int.Bits.{xor_zero_r}
use Rattle.std.proofs.lemmas.Simd.{length-chunk, length-zip2}
use lib.Lanes.{zip2, chunk}
use Rattle.pi_guard.specs.Register.{register}
use Rattle.pi_guard.specs.AfterZeros.{later}
use Rattle.pi_guard.specs.Broad.{broad_owed_by, broad_owed_next}
use Rattle.pi_guard.proofs.Sparse.{sparse_256}
use Rattle.pi_guard.proofs.Trailing.{none_owed}
use Rattle.pi_guard.proofs.Debts.{eight_due, followed_eight, settled_eight}

pub none_owed_256 : broad_owed_by (replicate 256 0) ≡ later 256 0
none_owed_256 = none_owed 256 112 32 4 refl refl refl

pub length-due : (a b d e : List ℕ) → length a ≡ 32 → length b ≡ 32 → length d ≡ 32 → length e ≡ 32 → length (eight_due 32 16 4 a b d e) ≡ 32
length-due a b d e la lb ld le =
    let near = chunk 16 32 (d ++ e) in
    let far = chunk 4 32 (a ++ b) in
    let ln : length near ≡ 32 = length-chunk 16 32 (d ++ e) (omega (arith, length-append d e)) in
    let lf : length far ≡ 32 = length-chunk 4 32 (a ++ b) (omega (arith, length-append a b)) in
    let lr : length (zip2 bit_xor b far) ≡ 32 = length-zip2 bit_xor b far (lb ∙ sym lf) ∙ lb in
    length-zip2 bit_xor near (zip2 bit_xor b far) (ln ∙ sym lr) ∙ ln

pub followed_256 : (r : ℕ) (a b c d e f g h m : List ℕ) → length a ≡ 32 → length b ≡ 32 → length c ≡ 32 → length d ≡ 32 → length e ≡ 32 → length f ≡ 32 → length g ≡ 32 → length h ≡ 32 → length m ≡ 32 →
    broad_owed_by (a ++ (b ++ (c ++ (d ++ (e ++ (f ++ (g ++ h))))))) ≡ later 256 r →
    broad_owed_by (b ++ (c ++ (d ++ (e ++ (f ++ (g ++ (h ++ (zip2 bit_xor m (broad_owed_next (chunk 4 32 (a ++ b)) b d e))))))))) ≡ later 256 (register r m)
followed_256 r a b c d e f g h m la lb lc ld le lf lg lh lm o =
    followed_eight 32 256 16 4 r a b c d e f g h m sparse_256 (lit≤ tt) (lit≤ tt) refl la lb lc ld le lf lg lh lm o

pub settled_256 : (r : ℕ) (a b c d e f g h m1 m2 m3 m4 m5 m6 m7 m8 : List ℕ) →
    length a ≡ 32 → length b ≡ 32 → length c ≡ 32 → length d ≡ 32 → length e ≡ 32 → length f ≡ 32 → length g ≡ 32 → length h ≡ 32 →
    length m1 ≡ 32 → length m2 ≡ 32 → length m3 ≡ 32 → length m4 ≡ 32 → length m5 ≡ 32 → length m6 ≡ 32 → length m7 ≡ 32 → length m8 ≡ 32 →
    broad_owed_by (a ++ (b ++ (c ++ (d ++ (e ++ (f ++ (g ++ h))))))) ≡ later 256 r →
    register 0 (zip2 bit_xor m1 (eight_due 32 16 4 a b d e) ++ (zip2 bit_xor m2 (eight_due 32 16 4 b c e f) ++ (zip2 bit_xor m3 (eight_due 32 16 4 c d f g) ++ (zip2 bit_xor m4 (eight_due 32 16 4 d e g h)
    ++ (zip2 bit_xor m5 (eight_due 32 16 4 e f h (replicate 32 0)) ++ (zip2 bit_xor m6 (eight_due 32 16 4 f g (replicate 32 0) (replicate 32 0)) ++ (zip2 bit_xor m7 (eight_due 32 16 4 g h (replicate 32 0) (replicate 32 0)) ++ (zip2 bit_xor m8 (eight_due 32 16 4 h (replicate 32 0) (replicate 32 0) (replicate 32 0))))))))))
    ≡ register r (m1 ++ (m2 ++ (m3 ++ (m4 ++ (m5 ++ (m6 ++ (m7 ++ m8)))))))
settled_256 r a b c d e f g h m1 m2 m3 m4 m5 m6 m7 m8 la lb lc ld le lf lg lh lm1 lm2 lm3 lm4 lm5 lm6 lm7 lm8 o =
    settled_eight 32 256 16 4 r (replicate 32 0) a b c d e f g h m1 m2 m3 m4 m5 m6 m7 m8 (lit≤ tt) (lit≤ tt) refl refl refl la lb lc ld le lf lg lh lm1 lm2 lm3 lm4 lm5 lm6 lm7 lm8 o

zeros_added : (xs : List ℕ) (n : ℕ) → length xs ≡ n → zip2 bit_xor xs (replicate n 0) ≡ xs
zeros_added [] zero l = refl
zeros_added [] (suc n) l = absurd (omega arith)
zeros_added (x ∷ xs) zero l = absurd (omega arith)
zeros_added (x ∷ xs) (suc n) l = rw (xor_zero_r x, zeros_added xs n (omega arith)) refl

-- a trail of zeros, and after it the first eight words: only those that come after four are owed anything
pub begun : (a m2 m3 m4 m5 m6 m7 m8 : List ℕ) → length a ≡ 32 → length m2 ≡ 32 → length m3 ≡ 32 → length m4 ≡ 32 → length m5 ≡ 32 → length m6 ≡ 32 → length m7 ≡ 32 → length m8 ≡ 32 →
    broad_owed_by (a ++ (m2 ++ (m3 ++ (m4 ++ (zip2 bit_xor m5 (chunk 16 32 (replicate 32 0 ++ a)) ++ (zip2 bit_xor m6 (chunk 16 32 (a ++ m2)) ++ (zip2 bit_xor m7 (chunk 16 32 (m2 ++ m3))
    ++ zip2 bit_xor m8 (zip2 bit_xor (chunk 16 32 (m3 ++ m4)) (zip2 bit_xor a (chunk 4 32 (replicate 32 0 ++ a)))))))))))
    ≡ later 256 (register (register (register (register (register (register (register (register 0 a) m2) m3) m4) m5) m6) m7) m8)
begun a b c d m5 m6 m7 m8 la lb lc ld l5 l6 l7 l8 =
    let z = replicate {A = ℕ} 32 0 in
    let half = λ (u v : List ℕ) (p : length u ≡ 32) (q : length v ≡ 32). length-chunk 16 32 (u ++ v) (omega (arith, length-append u v)) in
    let added = λ (m u : List ℕ) (p : length m ≡ 32) (q : length u ≡ 32). length-zip2 bit_xor m u (p ∙ sym q) ∙ p in
    let r1 = register 0 a in
    let r2 = register r1 b in
    let r3 = register r2 c in
    let r4 = register r3 d in
    let r5 = register r4 m5 in
    let r6 = register r5 m6 in
    let r7 = register r6 m7 in
    let none = λ (m : List ℕ) (l : length m ≡ 32). zeros_added m 32 l in
    -- what a word is owed where nothing is due 224 and 252 places on
    let only = λ (m u : List ℕ) (p : length u ≡ 32). ap (zip2 bit_xor m) (zeros_added u 32 p) in
    let o1 : broad_owed_by (z ++ (z ++ (z ++ (z ++ (z ++ (z ++ (z ++ a))))))) ≡ later 256 r1 =
    ap (λ v. broad_owed_by (z ++ (z ++ (z ++ (z ++ (z ++ (z ++ (z ++ v)))))))) (sym (none a la)) ∙ followed_256 0 z z z z z z z z a refl refl refl refl refl refl refl refl la none_owed_256 in
    let o2 : broad_owed_by (z ++ (z ++ (z ++ (z ++ (z ++ (z ++ (a ++ b))))))) ≡ later 256 r2 =
    ap (λ v. broad_owed_by (z ++ (z ++ (z ++ (z ++ (z ++ (z ++ (a ++ v)))))))) (sym (none b lb)) ∙ followed_256 r1 z z z z z z z a b refl refl refl refl refl refl refl la lb o1 in
    let o3 : broad_owed_by (z ++ (z ++ (z ++ (z ++ (z ++ (a ++ (b ++ c))))))) ≡ later 256 r3 =
    ap (λ v. broad_owed_by (z ++ (z ++ (z ++ (z ++ (z ++ (a ++ (b ++ v)))))))) (sym (none c lc)) ∙ followed_256 r2 z z z z z z a b c refl refl refl refl refl refl la lb lc o2 in
    let o4 : broad_owed_by (z ++ (z ++ (z ++ (z ++ (a ++ (b ++ (c ++ d))))))) ≡ later 256 r4 =
    ap (λ v. broad_owed_by (z ++ (z ++ (z ++ (z ++ (a ++ (b ++ (c ++ v)))))))) (sym (none d ld)) ∙ followed_256 r3 z z z z z a b c d refl refl refl refl refl la lb lc ld o3 in
    let h5 = chunk 16 32 (z ++ a) in
    let h6 = chunk 16 32 (a ++ b) in
    let h7 = chunk 16 32 (b ++ c) in
    let e = zip2 bit_xor m5 h5 in
    let f = zip2 bit_xor m6 h6 in
    let g = zip2 bit_xor m7 h7 in
    let le = added m5 h5 l5 (half z a refl la) in
    let lf = added m6 h6 l6 (half a b la lb) in
    let lg = added m7 h7 l7 (half b c lb lc) in
    let o5 : broad_owed_by (z ++ (z ++ (z ++ (a ++ (b ++ (c ++ (d ++ e))))))) ≡ later 256 r5 =
    ap (λ v. broad_owed_by (z ++ (z ++ (z ++ (a ++ (b ++ (c ++ (d ++ v)))))))) (sym (only m5 h5 (half z a refl la))) ∙ followed_256 r4 z z z z a b c d m5 refl refl refl refl la lb lc ld l5 o4 in
    let o6 : broad_owed_by (z ++ (z ++ (a ++ (b ++ (c ++ (d ++ (e ++ f))))))) ≡ later 256 r6 =
    ap (λ v. broad_owed_by (z ++ (z ++ (a ++ (b ++ (c ++ (d ++ (e ++ v)))))))) (sym (only m6 h6 (half a b la lb))) ∙ followed_256 r5 z z z a b c d e m6 refl refl refl la lb lc ld le l6 o5 in
    let o7 : broad_owed_by (z ++ (a ++ (b ++ (c ++ (d ++ (e ++ (f ++ g))))))) ≡ later 256 r7 =
    ap (λ v. broad_owed_by (z ++ (a ++ (b ++ (c ++ (d ++ (e ++ (f ++ v)))))))) (sym (only m7 h7 (half b c lb lc))) ∙ followed_256 r6 z z a b c d e f m7 refl refl la lb lc ld le lf l7 o6 in
    followed_256 r7 z a b c d e f g m8 refl la lb lc ld le lf lg l8 o7
