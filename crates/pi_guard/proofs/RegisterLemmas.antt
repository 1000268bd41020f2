-- The register as division by the polynomial, bit by bit.
use Rattle.std.proofs.Common.{◌≡◌, ℕ, zero, suc, ◌+◌, ◌*◌, ◌/◌, ◌%◌, ◌^◌, ◌<◌, ◌≤◌, Bool, true, false, cond, eqb, List, [], ◌∷◌, ◌++◌, length, refl, sym, ap, ◌∙◌, arith, append_assoc, append-nil, lit<}
use Rattle.std.specs.Prelude.{bit_xor, replicate}
use Rattle.std.specs.Int.{bit_at}
use Rattle.std.proofs.lemmas.Nat.Bits.{bit_at_xor, bit_at-suc, bit_at-lt, bit_at_lowest, bit_at_cat_low}
use Rattle.std.proofs.lemmas.Nat.{xor_lt, xor_comm, shr_split, mod-pow-add, mod_below}
use Rattle.std.proofs.Math.Nat.{pow-suc, mul_assoc, mod-one, mod-eq_of_lt}
use Rattle.pi_guard.specs.Register.{step, steps, byte_step, register}
use Rattle.pi_guard.specs.Guards.{bits_of, all_bits, number, plus, add_front, divide, t10, sixteen_zeros, crc}

pub register-append : (r : ℕ) (xs ys : List ℕ) → register r (xs ++ ys) ≡ register (register r xs) ys
register-append r [] ys = refl
register-append r (x ∷ xs) ys = register-append (byte_step r x) xs ys

plus_digits : (u v w : ℕ) → u < 2 → v < 2 → w ≡ (u + v) % 2 → plus (eqb u 1) (eqb v 1) ≡ eqb w 1
plus_digits zero zero w p q e = rw e refl
plus_digits zero (suc zero) w p q e = rw e refl
plus_digits (suc zero) zero w p q e = rw e refl
plus_digits (suc zero) (suc zero) w p q e = rw e refl
plus_digits (suc (suc u)) v w p q e = absurd (omega arith)
plus_digits zero (suc (suc v)) w p q e = absurd (omega arith)
plus_digits (suc zero) (suc (suc v)) w p q e = absurd (omega arith)

pub plus_bits : (a b n : ℕ) → plus (eqb (bit_at a n) 1) (eqb (bit_at b n) 1) ≡ eqb (bit_at (bit_xor a b) n) 1
plus_bits a b n = plus_digits (bit_at a n) (bit_at b n) (bit_at (bit_xor a b) n) (bit_at-lt a n) (bit_at-lt b n) (bit_at_xor a b n)

pub plus_assoc : (p q x : Bool) → plus p (plus q x) ≡ plus (plus p q) x
plus_assoc true true true = refl
plus_assoc true true false = refl
plus_assoc true false x = refl
plus_assoc false q x = refl

-- two registers in front of a list are their xor
pub add_twice : (n a b : ℕ) (l : List Bool) → add_front (bits_of n a) (add_front (bits_of n b) l) ≡ add_front (bits_of n (bit_xor a b)) l
add_twice zero a b l = refl
add_twice (suc n) a b [] = refl
add_twice (suc n) a b (x ∷ l) =
    let e1 = plus_assoc (eqb (bit_at a n) 1) (eqb (bit_at b n) 1) x in
    let e2 = plus_bits a b n in
    let e3 = add_twice n a b l in
    cc

-- a zero behind what is added changes nothing
pub add_longer : (ps l : List Bool) → add_front (ps ++ false ∷ []) l ≡ add_front ps l
add_longer [] [] = refl
add_longer [] (x ∷ l) = refl
add_longer (p ∷ ps) [] = refl
add_longer (p ∷ ps) (x ∷ l) = ap (λ v. plus p x ∷ v) (add_longer ps l)

bits_doubled : (n r : ℕ) → bits_of (suc n) (r * 2) ≡ bits_of n r ++ false ∷ []
bits_doubled zero r =
    let e : bit_at (r * 2) 0 ≡ 0 = bit_at_lowest (r * 2) ∙ omega arith in
    rw e refl
bits_doubled (suc n) r =
    let h : r * 2 / 2 ≡ r = omega arith in
    let e : bit_at (r * 2) (suc n) ≡ bit_at r n = bit_at-suc (r * 2) n ∙ ap (λ v. bit_at v n) h in
    let i = bits_doubled n r in
    cc

bits_low : (n k r : ℕ) → n ≤ k → bits_of n (r % 2 ^ k) ≡ bits_of n r
bits_low zero k r h = refl
bits_low (suc n) k r h =
    let s = shr_split r k in
    let e : bit_at r n ≡ bit_at (r % 2 ^ k) n = ap (λ v. bit_at v n) (sym s) ∙ bit_at_cat_low (r / 2 ^ k) k (r % 2 ^ k) n (omega arith) in
    let i = bits_low n k r (omega arith) in
    cc

-- the register moved by one place
moved : (n r : ℕ) (l : List Bool) → add_front (bits_of (suc n) (r * 2 % 2 ^ suc n)) l ≡ add_front (bits_of n r) l
moved n r l =
    ap (λ v. add_front v l) (bits_low (suc n) (suc n) (r * 2) (omega arith) ∙ bits_doubled n r) ∙ add_longer (bits_of n r) l

stepped : (t : Bool) (n r : ℕ) (l : List Bool) → t ≡ eqb (bit_at r 15) 1 →
    divide t10 (suc n) (plus t false ∷ add_front (bits_of 15 r) l) ≡ divide t10 n (add_front (bits_of 16 (step r)) l)
stepped true n r l e =
    let s : bit_xor 0x8BB7 (r * 2 % 2 ^ 16) ≡ step r = xor_comm 0x8BB7 (r * 2 % 2 ^ 16) ∙ rw (← e) refl in
    ap (λ v. divide t10 n (add_front (bits_of 16 0x8BB7) v)) (sym (moved 15 r l))
    ∙ ap (divide t10 n) (add_twice 16 0x8BB7 (r * 2 % 2 ^ 16) l)
    ∙ ap (λ v. divide t10 n (add_front (bits_of 16 v) l)) s
stepped false n r l e =
    let s : r * 2 % 2 ^ 16 ≡ step r = rw (← e) refl in
    ap (divide t10 n) (sym (moved 15 r l)) ∙ ap (λ v. divide t10 n (add_front (bits_of 16 v) l)) s

pub one_step : (n r : ℕ) (l : List Bool) → divide t10 (suc n) (add_front (bits_of 16 r) (false ∷ l)) ≡ divide t10 n (add_front (bits_of 16 (step r)) l)
one_step n r l = stepped (eqb (bit_at r 15) 1) n r l refl

more : ℕ → ℕ → ℕ
more zero n = n
more (suc k) n = suc (more k n)

-- so many zeros pass through the register
zeros_pass : (k n r : ℕ) (l : List Bool) →
    divide t10 (more k n) (add_front (bits_of 16 r) (replicate k false ++ l)) ≡ divide t10 n (add_front (bits_of 16 (steps k r)) l)
unfolding more
zeros_pass zero n r l = refl
zeros_pass (suc k) n r l = one_step (more k n) r (replicate k false ++ l) ∙ zeros_pass k n (step r) l

raised : (k n x : ℕ) (l : List Bool) → add_front (bits_of (more k n) (x * 2 ^ k)) l ≡ add_front (bits_of n x) l
unfolding more
raised zero n x l = let e : x * 2 ^ 0 ≡ x = omega arith in rw e refl
raised (suc k) n x l =
    let e : x * 2 ^ suc k ≡ x * 2 ^ k * 2 = ap (λ v. x * v) (pow-suc 2 k) ∙ sym (mul_assoc x (2 ^ k) 2) in
    ap (λ v. add_front (bits_of (suc (more k n)) v) l) e
    ∙ ap (λ v. add_front v l) (bits_doubled (more k n) (x * 2 ^ k))
    ∙ add_longer (bits_of (more k n) (x * 2 ^ k)) l
    ∙ raised k n x l

pub plus_zero : (p : Bool) → plus p false ≡ p
plus_zero true = refl
plus_zero false = refl

add_to_zeros : (n x : ℕ) (l : List Bool) → add_front (bits_of n x) (replicate n false ++ l) ≡ bits_of n x ++ l
add_to_zeros zero x l = refl
add_to_zeros (suc n) x l =
    let e = plus_zero (eqb (bit_at x n) 1) in
    let i = add_to_zeros n x l in
    cc

-- a byte before the rest is the byte in the register, and eight zeros
absorbed : (r x : ℕ) (l : List Bool) → add_front (bits_of 16 r) (bits_of 8 x ++ l) ≡ add_front (bits_of 16 (bit_xor r (x * 2 ^ 8))) (replicate 8 false ++ l)
unfolding more
absorbed r x l =
    ap (add_front (bits_of 16 r)) (sym (raised 8 8 x (replicate 8 false ++ l) ∙ add_to_zeros 8 x l))
    ∙ add_twice 16 r (x * 2 ^ 8) (replicate 8 false ++ l)

pub bits_length : (n x : ℕ) → length (bits_of n x) ≡ n
bits_length zero x = refl
bits_length (suc n) x = ap suc (bits_length n x)

pub digit_back : (u : ℕ) → u < 2 → cond (eqb u 1) 1 0 ≡ u
digit_back zero h = refl
digit_back (suc zero) h = refl
digit_back (suc (suc u)) h = absurd (omega arith)

pub number_bits : (n x : ℕ) → number (bits_of n x) ≡ x % 2 ^ n
number_bits zero x = sym (mod-one x)
number_bits (suc n) x =
    let d = digit_back (bit_at x n) (bit_at-lt x n) in
    let l = bits_length n x in
    let i = number_bits n x in
    let m : x % 2 ^ (1 + n) ≡ bit_at x n * 2 ^ n + x % 2 ^ n = mod-pow-add x 1 n in
    let o : 1 + n ≡ suc n = omega arith in
    rw (d, l, i) (sym m ∙ ap (λ v. x % 2 ^ v) o)

one_byte : (r x n : ℕ) (l : List Bool) → divide t10 (more 8 n) (add_front (bits_of 16 r) (bits_of 8 x ++ l)) ≡ divide t10 n (add_front (bits_of 16 (byte_step r x)) l)
unfolding byte_step
one_byte r x n l = ap (divide t10 (more 8 n)) (absorbed r x l) ∙ zeros_pass 8 n (bit_xor r (x * 2 ^ 8)) l

left_over : (r : ℕ) (xs : List ℕ) →
    number (divide t10 (length (all_bits xs)) (add_front (bits_of 16 r) (all_bits xs ++ sixteen_zeros))) ≡ register r xs % 2 ^ 16
unfolding more
left_over r [] = ap number (add_to_zeros 16 r [] ∙ append-nil (bits_of 16 r)) ∙ number_bits 16 r
left_over r (x ∷ xs) =
    ap (λ v. number (divide t10 (more 8 (length (all_bits xs))) (add_front (bits_of 16 r) v))) (append_assoc (bits_of 8 x) (all_bits xs) sixteen_zeros)
    ∙ ap number (one_byte r x (length (all_bits xs)) (all_bits xs ++ sixteen_zeros))
    ∙ left_over (byte_step r x) xs

add_none : (n : ℕ) (l : List Bool) → add_front (replicate n false) l ≡ l
add_none zero l = refl
add_none (suc n) [] = refl
add_none (suc n) (x ∷ l) = ap (λ v. x ∷ v) (add_none n l)

step_below : (t : Bool) (r : ℕ) → cond t (bit_xor (r * 2 % 2 ^ 16) 0x8BB7) (r * 2 % 2 ^ 16) < 2 ^ 16
step_below true r = xor_lt 16 (r * 2 % 2 ^ 16) 0x8BB7 (mod_below (r * 2) (2 ^ 16) (omega arith)) (lit< tt)
step_below false r = mod_below (r * 2) (2 ^ 16) (omega arith)

pub step-lt : (r : ℕ) → step r < 2 ^ 16
step-lt r = step_below (eqb (bit_at r 15) 1) r

steps-lt : (k r : ℕ) → r < 2 ^ 16 → steps k r < 2 ^ 16
steps-lt zero r h = h
steps-lt (suc k) r h = steps-lt k (step r) (step-lt r)

byte_step-lt : (r x : ℕ) → byte_step r x < 2 ^ 16
unfolding byte_step
byte_step-lt r x = steps-lt 7 (step (bit_xor r (x * 2 ^ 8))) (step-lt (bit_xor r (x * 2 ^ 8)))

pub register-lt : (r : ℕ) (xs : List ℕ) → r < 2 ^ 16 → register r xs < 2 ^ 16
register-lt r [] h = h
register-lt r (x ∷ xs) h = register-lt (byte_step r x) xs (byte_step-lt r x)

pub crc-register : (bytes : List ℕ) → crc bytes ≡ register 0 bytes
unfolding crc
crc-register bytes =
    ap (λ v. number (divide t10 (length (all_bits bytes)) v)) (sym (add_none 16 (all_bits bytes ++ sixteen_zeros)))
    ∙ left_over 0 bytes
    ∙ mod-eq_of_lt (register-lt 0 bytes (lit< tt))

pub step_zero : (r : ℕ) → r / 2 ^ 15 ≡ 0 → step r ≡ r * 2 % 2 ^ 16
step_zero r e = let d : bit_at r 15 ≡ 0 = rw e refl in rw d refl
