-- The register as long division by the polynomial, bit by bit.
use Rattle.std.proofs.Common.{◌≡◌, ℕ, zero, suc, ◌+◌, ◌-◌, ◌/◌, ◌%◌, ◌^◌, ◌<◌, ◌≤◌, Bool, true, false, cond, not, eqb, List, [], ◌∷◌, ◌++◌, length, map, refl, sym, ap, ◌∙◌, arith, append_assoc, append-nil, lit<, lit≤}
use Rattle.std.specs.Prelude.{bit_xor, replicate}
use Rattle.std.specs.Int.Bits.{xor_comm, xor_lt}
use Rattle.std.proofs.Math.Nat.{pow-suc}
use Rattle.pi_guard.specs.Guards.{add_front, bits_of, divide, plus}
use Rattle.pi_guard.proofs.RegisterLemmas.{add_longer, plus_assoc, plus_zero}
use Rattle.wide_guard.specs.Reflected.{crc32c, crc64, low_bits, low_first, low_number, reflected}
use Rattle.wide_guard.specs.Registers.{castagnoli, rocksoft, step, steps, pass, byte_step, register}
use Rattle.wide_guard.proofs.Linear.{half-xor, odd-xor, register-append}

-- two registers in front of a list are their xor
add_twice : (n a b : ℕ) (l : List Bool) → add_front (low_bits n a) (add_front (low_bits n b) l) ≡ add_front (low_bits n (bit_xor a b)) l
add_twice zero a b l = refl
add_twice (suc n) a b [] = refl
add_twice (suc n) a b (x ∷ l) =
    let e1 = plus_assoc (eqb (a % 2) 1) (eqb (b % 2) 1) x in
    let e2 = odd-xor a b in
    let e3 = add_twice n (a / 2) (b / 2) l in
    let e4 = half-xor a b in
    cc

longer_bits : (n x : ℕ) → x < 2 ^ n → low_bits (suc n) x ≡ low_bits n x ++ false ∷ []
longer_bits zero x h = let e : x ≡ 0 = omega arith in rw e refl
longer_bits (suc n) x h =
    let t = pow-suc 2 n in
    ap (λ v. eqb (x % 2) 1 ∷ v) (longer_bits n (x / 2) (omega arith))

stepped : (t : Bool) (p n m r : ℕ) (l : List Bool) → t ≡ eqb (r % 2) 1 → r < 2 ^ suc n →
    divide (low_bits (suc n) p) (suc m) (plus t false ∷ add_front (low_bits n (r / 2)) l) ≡ divide (low_bits (suc n) p) m (add_front (low_bits (suc n) (step p r)) l)
stepped true p n m r l e h =
    let b : r / 2 < 2 ^ n = let t = pow-suc 2 n in omega arith in
    let s : bit_xor p (r / 2) ≡ step p r = xor_comm p (r / 2) ∙ rw (← e) refl in
    ap (λ v. divide (low_bits (suc n) p) m (add_front (low_bits (suc n) p) v)) (sym (add_longer (low_bits n (r / 2)) l) ∙ ap (λ v. add_front v l) (sym (longer_bits n (r / 2) b)))
    ∙ ap (divide (low_bits (suc n) p) m) (add_twice (suc n) p (r / 2) l)
    ∙ ap (λ v. divide (low_bits (suc n) p) m (add_front (low_bits (suc n) v) l)) s
stepped false p n m r l e h =
    let b : r / 2 < 2 ^ n = let t = pow-suc 2 n in omega arith in
    let s : r / 2 ≡ step p r = rw (← e) refl in
    ap (divide (low_bits (suc n) p) m) (sym (add_longer (low_bits n (r / 2)) l) ∙ ap (λ v. add_front v l) (sym (longer_bits n (r / 2) b)))
    ∙ ap (λ v. divide (low_bits (suc n) p) m (add_front (low_bits (suc n) v) l)) s

one_step : (p n m r : ℕ) (l : List Bool) → r < 2 ^ suc n →
    divide (low_bits (suc n) p) (suc m) (add_front (low_bits (suc n) r) (false ∷ l)) ≡ divide (low_bits (suc n) p) m (add_front (low_bits (suc n) (step p r)) l)
one_step p n m r l h = stepped (eqb (r % 2) 1) p n m r l refl h

step_below : (t : Bool) (p n x : ℕ) → p < 2 ^ suc n → x < 2 ^ suc n → cond t (bit_xor x p) x < 2 ^ suc n
step_below true p n x hp hx = xor_lt (suc n) x p hx hp
step_below false p n x hp hx = hx

pub step-lt : (p n r : ℕ) → p < 2 ^ suc n → r < 2 ^ suc n → step p r < 2 ^ suc n
step-lt p n r hp h = step_below (eqb (r % 2) 1) p n (r / 2) hp (omega arith)

pub steps-lt : (p n k r : ℕ) → p < 2 ^ suc n → r < 2 ^ suc n → steps p k r < 2 ^ suc n
steps-lt p n zero r hp h = h
steps-lt p n (suc k) r hp h = steps-lt p n k (step p r) hp (step-lt p n r hp h)

more : ℕ → ℕ → ℕ
more zero m = m
more (suc k) m = suc (more k m)

-- so many zeros pass through the register
zeros_pass : (p n k m r : ℕ) (l : List Bool) → p < 2 ^ suc n → r < 2 ^ suc n →
    divide (low_bits (suc n) p) (more k m) (add_front (low_bits (suc n) r) (replicate k false ++ l)) ≡ divide (low_bits (suc n) p) m (add_front (low_bits (suc n) (steps p k r)) l)
unfolding more
zeros_pass p n zero m r l hp h = refl
zeros_pass p n (suc k) m r l hp h = one_step p n (more k m) r (replicate k false ++ l) h ∙ zeros_pass p n k m (step p r) l hp (step-lt p n r hp h)

add_to_zeros : (n x : ℕ) (l : List Bool) → add_front (low_bits n x) (replicate n false ++ l) ≡ low_bits n x ++ l
add_to_zeros zero x l = refl
add_to_zeros (suc n) x l =
    let e = plus_zero (eqb (x % 2) 1) in
    let i = add_to_zeros n (x / 2) l in
    cc

none : (k : ℕ) (l : List Bool) → add_front (low_bits k 0) l ≡ l
none zero l = refl
none (suc k) [] = refl
none (suc k) (x ∷ l) = ap (λ v. x ∷ v) (none k l)

-- few bits are those of a longer register whose others are 0
few_bits : (k n x : ℕ) (l : List Bool) → x < 2 ^ k → add_front (low_bits (k + n) x) l ≡ add_front (low_bits k x) l
few_bits zero n x l h = let e : x ≡ 0 = omega arith in let z : 0 + n ≡ n = omega arith in rw (e, z) (none n l)
few_bits (suc k) n x [] h = let s : suc k + n ≡ suc (k + n) = omega arith in rw s refl
few_bits (suc k) n x (b ∷ l) h =
    let s : suc k + n ≡ suc (k + n) = omega arith in
    let t = pow-suc 2 k in
    rw s (ap (λ v. plus (eqb (x % 2) 1) b ∷ v) (few_bits k n (x / 2) l (omega arith)))

byte_bits : (x : ℕ) → low_bits 8 (x % 256) ≡ low_bits 8 x
byte_bits x =
    let e0 : x % 256 % 2 ≡ x % 2 = omega arith in
    let e1 : x % 256 / 2 % 2 ≡ x / 2 % 2 = omega arith in
    let e2 : x % 256 / 2 / 2 % 2 ≡ x / 2 / 2 % 2 = omega arith in
    let e3 : x % 256 / 2 / 2 / 2 % 2 ≡ x / 2 / 2 / 2 % 2 = omega arith in
    let e4 : x % 256 / 2 / 2 / 2 / 2 % 2 ≡ x / 2 / 2 / 2 / 2 % 2 = omega arith in
    let e5 : x % 256 / 2 / 2 / 2 / 2 / 2 % 2 ≡ x / 2 / 2 / 2 / 2 / 2 % 2 = omega arith in
    let e6 : x % 256 / 2 / 2 / 2 / 2 / 2 / 2 % 2 ≡ x / 2 / 2 / 2 / 2 / 2 / 2 % 2 = omega arith in
    let e7 : x % 256 / 2 / 2 / 2 / 2 / 2 / 2 / 2 % 2 ≡ x / 2 / 2 / 2 / 2 / 2 / 2 / 2 % 2 = omega arith in
    cc

-- a byte before the rest is the byte in the register, and eight zeros
absorbed : (n m r x : ℕ) (l : List Bool) → suc n ≡ 8 + m →
    add_front (low_bits (suc n) r) (low_bits 8 x ++ l) ≡ add_front (low_bits (suc n) (bit_xor r (x % 256))) (replicate 8 false ++ l)
absorbed n m r x l e =
    let wide : add_front (low_bits (suc n) (x % 256)) (replicate 8 false ++ l) ≡ low_bits 8 x ++ l =
    ap (λ k. add_front (low_bits k (x % 256)) (replicate 8 false ++ l)) e
    ∙ few_bits 8 m (x % 256) (replicate 8 false ++ l) (omega arith)
    ∙ ap (λ v. add_front v (replicate 8 false ++ l)) (byte_bits x)
    ∙ add_to_zeros 8 x l in
    ap (add_front (low_bits (suc n) r)) (sym wide) ∙ add_twice (suc n) r (x % 256) (replicate 8 false ++ l)

-- what a width asks for: it holds a byte, and the polynomial
pub record IsWidth (n m p : ℕ) : Type 0 where
  pub eight : suc n ≡ 8 + m
  pub room : 256 ≤ 2 ^ suc n
  pub poly : p < 2 ^ suc n

with_byte : (n m p r x : ℕ) → IsWidth n m p → r < 2 ^ suc n → bit_xor r (x % 256) < 2 ^ suc n
with_byte n m p r x w h = let s = w.room in xor_lt (suc n) r (x % 256) h (omega arith)

byte_step-lt : (n m p r x : ℕ) → IsWidth n m p → r < 2 ^ suc n → byte_step p r x < 2 ^ suc n
unfolding byte_step pass
byte_step-lt n m p r x w h = steps-lt p n 8 (bit_xor r (x % 256)) w.poly (with_byte n m p r x w h)

pub register-lt : (n m p r : ℕ) (xs : List ℕ) → IsWidth n m p → r < 2 ^ suc n → register p r xs < 2 ^ suc n
register-lt n m p r [] w h = h
register-lt n m p r (x ∷ xs) w h = register-lt n m p (byte_step p r x) xs w (byte_step-lt n m p r x w h)

one_byte : (n m p k r x : ℕ) (l : List Bool) → IsWidth n m p → r < 2 ^ suc n →
    divide (low_bits (suc n) p) (more 8 k) (add_front (low_bits (suc n) r) (low_bits 8 x ++ l)) ≡ divide (low_bits (suc n) p) k (add_front (low_bits (suc n) (byte_step p r x)) l)
unfolding byte_step pass
one_byte n m p k r x l w h =
    ap (divide (low_bits (suc n) p) (more 8 k)) (absorbed n m r x l w.eight) ∙ zeros_pass p n 8 k (bit_xor r (x % 256)) l w.poly (with_byte n m p r x w h)

digit_turned : (d : ℕ) → d < 2 → cond (not (eqb d 1)) 1 0 + d ≡ 1
digit_turned zero h = refl
digit_turned (suc zero) h = refl
digit_turned (suc (suc d)) h = absurd (omega arith)

turned_number : (n x : ℕ) → x < 2 ^ n → low_number (map not (low_bits n x)) + x + 1 ≡ 2 ^ n
turned_number zero x h = omega arith
turned_number (suc n) x h =
    let t = pow-suc 2 n in
    let d = digit_turned (x % 2) (omega arith) in
    let i = turned_number n (x / 2) (omega arith) in
    omega arith

left_over : (n m p r : ℕ) (xs : List ℕ) → IsWidth n m p → r < 2 ^ suc n →
    low_number (map not (divide (low_bits (suc n) p) (length (low_first xs)) (add_front (low_bits (suc n) r) (low_first xs ++ replicate (suc n) false)))) ≡ 2 ^ suc n - 1 - register p r xs
unfolding more
left_over n m p r [] w h =
    let t = turned_number (suc n) r h in
    ap (λ v. low_number (map not (add_front (low_bits (suc n) r) v))) (sym (append-nil (replicate (suc n) false)))
    ∙ ap (λ v. low_number (map not v)) (add_to_zeros (suc n) r [] ∙ append-nil (low_bits (suc n) r)) ∙ omega arith
left_over n m p r (x ∷ xs) w h =
    ap (λ v. low_number (map not (divide (low_bits (suc n) p) (more 8 (length (low_first xs))) (add_front (low_bits (suc n) r) v)))) (append_assoc (low_bits 8 x) (low_first xs) (replicate (suc n) false))
    ∙ ap (λ v. low_number (map not v)) (one_byte n m p (length (low_first xs)) r x (low_first xs ++ replicate (suc n) false) w h)
    ∙ left_over n m p (byte_step p r x) xs w (byte_step-lt n m p r x w h)

by_register : (n m p poly start : ℕ) (bytes : List ℕ) → IsWidth n m p → bits_of (suc n) poly ≡ low_bits (suc n) p → replicate (suc n) true ≡ low_bits (suc n) start → start < 2 ^ suc n →
    reflected (suc n) poly bytes ≡ 2 ^ suc n - 1 - register p start bytes
unfolding reflected
by_register n m p poly start bytes w e f h =
    ap (λ v. low_number (map not (divide v (length (low_first bytes)) (add_front (replicate (suc n) true) (low_first bytes ++ replicate (suc n) false))))) e
    ∙ ap (λ v. low_number (map not (divide (low_bits (suc n) p) (length (low_first bytes)) (add_front v (low_first bytes ++ replicate (suc n) false))))) f
    ∙ left_over n m p start bytes w h

-- the two widths

width_32 : IsWidth 31 24 castagnoli
unfolding castagnoli
width_32 = record { eight = refl; room = lit≤ tt; poly = lit< tt }

width_64 : IsWidth 63 56 rocksoft
unfolding rocksoft
width_64 = record { eight = refl; room = lit≤ tt; poly = lit< tt }

same_32 : bits_of 32 0x1EDC6F41 ≡ low_bits 32 castagnoli
unfolding castagnoli
same_32 = refl

same_64 : bits_of 64 0xAD93D23594C93659 ≡ low_bits 64 rocksoft
unfolding rocksoft
same_64 = refl

ones_32 : replicate 32 true ≡ low_bits 32 0xFFFF_FFFF
ones_32 = refl

ones_64 : replicate 64 true ≡ low_bits 64 0xFFFF_FFFF_FFFF_FFFF
ones_64 = refl

pub crc_32 : (bytes : List ℕ) → crc32c bytes ≡ 0xFFFF_FFFF - register castagnoli 0xFFFF_FFFF bytes
unfolding crc32c
crc_32 bytes = by_register 31 24 castagnoli 0x1EDC6F41 0xFFFF_FFFF bytes width_32 same_32 ones_32 (lit< tt)

pub crc_64 : (bytes : List ℕ) → crc64 bytes ≡ 0xFFFF_FFFF_FFFF_FFFF - register rocksoft 0xFFFF_FFFF_FFFF_FFFF bytes
unfolding crc64
crc_64 bytes = by_register 63 56 rocksoft 0xAD93D23594C93659 0xFFFF_FFFF_FFFF_FFFF bytes width_64 same_64 ones_64 (lit< tt)

pub register_32 : (r : ℕ) (xs : List ℕ) → r < 2 ^ 32 → register castagnoli r xs < 2 ^ 32
register_32 r xs h = register-lt 31 24 castagnoli r xs width_32 h

pub register_64 : (r : ℕ) (xs : List ℕ) → r < 2 ^ 64 → register rocksoft r xs < 2 ^ 64
register_64 r xs h = register-lt 63 56 rocksoft r xs width_64 h

-- the CRC of bytes that go on

pub crc_32_goes_on : (guard : ℕ) (before bytes : List ℕ) → guard ≡ crc32c before → 0xFFFF_FFFF - register castagnoli (0xFFFF_FFFF - guard) bytes ≡ crc32c (before ++ bytes)
crc_32_goes_on guard before bytes e =
    let r = register castagnoli 0xFFFF_FFFF before in
    let b : r < 2 ^ 32 = register_32 0xFFFF_FFFF before (lit< tt) in
    let g : guard ≡ 0xFFFF_FFFF - r = e ∙ crc_32 before in
    let back : 0xFFFF_FFFF - guard ≡ r = omega arith in
    ap (λ v. 0xFFFF_FFFF - register castagnoli v bytes) back
    ∙ ap (λ v. 0xFFFF_FFFF - v) (sym (register-append castagnoli 0xFFFF_FFFF before bytes))
    ∙ sym (crc_32 (before ++ bytes))

pub crc_64_goes_on : (guard : ℕ) (before bytes : List ℕ) → guard ≡ crc64 before → 0xFFFF_FFFF_FFFF_FFFF - register rocksoft (0xFFFF_FFFF_FFFF_FFFF - guard) bytes ≡ crc64 (before ++ bytes)
crc_64_goes_on guard before bytes e =
    let r = register rocksoft 0xFFFF_FFFF_FFFF_FFFF before in
    let b : r < 2 ^ 64 = register_64 0xFFFF_FFFF_FFFF_FFFF before (lit< tt) in
    let g : guard ≡ 0xFFFF_FFFF_FFFF_FFFF - r = e ∙ crc_64 before in
    let back : 0xFFFF_FFFF_FFFF_FFFF - guard ≡ r = omega arith in
    ap (λ v. 0xFFFF_FFFF_FFFF_FFFF - register rocksoft v bytes) back
    ∙ ap (λ v. 0xFFFF_FFFF_FFFF_FFFF - v) (sym (register-append rocksoft 0xFFFF_FFFF_FFFF_FFFF before bytes))
    ∙ sym (crc_64 (before ++ bytes))
