-- The step of the CRC register is linear over xor.
use Rattle.std.proofs.Common.{◌≡◌, ℕ, zero, suc, ◌+◌, ◌*◌, ◌/◌, ◌%◌, ◌<◌, ◌≤◌, ◌^◌, Bool, true, false, cond, eqb, List, [], ◌∷◌, length, get_or, drop, refl, sym, ap, ◌∙◌, arith, lit<}
use Rattle.std.specs.Prelude.{bit_xor}
use Rattle.std.specs.Int.{bit_at}
use Rattle.std.specs.Int.Bits.{xor_assoc, xor_comm, xor_block, xor_shifted, xor_mod, xor_zero_r}
use Rattle.std.proofs.Math.Nat.{pow-suc, mul_assoc, mul_comm, mod-eq_of_lt, div-eq_of_lt, mul-le-mul_left}
use Rattle.std.proofs.lemmas.Nat.{pow_pos}
use Rattle.pi_guard.specs.Guards.{plus}
use Rattle.pi_guard.specs.Register.{step, steps, byte_step, register}
use Rattle.pi_guard.specs.AfterZeros.{pass, later, entry}
use Rattle.pi_guard.proofs.RegisterLemmas.{plus_bits, step_zero}

-- a change of order
pub swap_middle : (a b c d : ℕ) → bit_xor (bit_xor a b) (bit_xor c d) ≡ bit_xor (bit_xor a c) (bit_xor b d)
swap_middle a b c d =
    xor_assoc a b (bit_xor c d)
    ∙ ap (bit_xor a) (sym (xor_assoc b c d) ∙ ap (λ v. bit_xor v d) (xor_comm b c) ∙ xor_assoc c b d)
    ∙ sym (xor_assoc a c (bit_xor b d))

taken : Bool → ℕ
taken b = cond b 0x8BB7 0

taken-plus : (p q : Bool) → taken (plus p q) ≡ bit_xor (taken p) (taken q)
unfolding taken
taken-plus true true = refl
taken-plus true false = refl
taken-plus false true = refl
taken-plus false false = refl

parts : (t : Bool) (x : ℕ) → cond t (bit_xor x 0x8BB7) x ≡ bit_xor x (taken t)
unfolding taken
parts true x = refl
parts false x = sym (xor_zero_r x)

step_parts : (r : ℕ) → step r ≡ bit_xor (r * 2 % 2 ^ 16) (taken (eqb (bit_at r 15) 1))
step_parts r = parts (eqb (bit_at r 15) 1) (r * 2 % 2 ^ 16)

doubled-xor : (a b : ℕ) → bit_xor a b * 2 ≡ bit_xor (a * 2) (b * 2)
doubled-xor a b =
    let e = xor_block 1 a b 0 0 (lit< tt) (lit< tt) in
    let p : (x : ℕ) → x * 2 ^ 1 + 0 ≡ x * 2 = λ x. omega arith in
    let q : bit_xor a b * 2 ^ 1 + bit_xor 0 0 ≡ bit_xor a b * 2 = omega arith in
    sym q ∙ sym e ∙ ap (λ v. bit_xor v (b * 2 ^ 1 + 0)) (p a) ∙ ap (bit_xor (a * 2)) (p b)

pub step-xor : (a b : ℕ) → step (bit_xor a b) ≡ bit_xor (step a) (step b)
step-xor a b =
    step_parts (bit_xor a b)
    ∙ ap (λ v. bit_xor v (taken (eqb (bit_at (bit_xor a b) 15) 1))) (ap (λ v. v % 2 ^ 16) (doubled-xor a b) ∙ xor_mod (a * 2) (b * 2) 16)
    ∙ ap (bit_xor (bit_xor (a * 2 % 2 ^ 16) (b * 2 % 2 ^ 16))) (ap taken (sym (plus_bits a b 15)) ∙ taken-plus (eqb (bit_at a 15) 1) (eqb (bit_at b 15) 1))
    ∙ swap_middle (a * 2 % 2 ^ 16) (b * 2 % 2 ^ 16) (taken (eqb (bit_at a 15) 1)) (taken (eqb (bit_at b 15) 1))
    ∙ ap (bit_xor (bit_xor (a * 2 % 2 ^ 16) (taken (eqb (bit_at a 15) 1)))) (sym (step_parts b))
    ∙ ap (λ v. bit_xor v (step b)) (sym (step_parts a))

steps-xor : (k a b : ℕ) → steps k (bit_xor a b) ≡ bit_xor (steps k a) (steps k b)
steps-xor zero a b = refl
steps-xor (suc k) a b = ap (steps k) (step-xor a b) ∙ steps-xor k (step a) (step b)

pub pass-xor : (a b : ℕ) → pass (bit_xor a b) ≡ bit_xor (pass a) (pass b)
unfolding pass
pass-xor a b = steps-xor 8 a b

pub later-xor : (k a b : ℕ) → later k (bit_xor a b) ≡ bit_xor (later k a) (later k b)
later-xor zero a b = refl
later-xor (suc k) a b = ap (later k) (pass-xor a b) ∙ later-xor k (pass a) (pass b)

pub small_steps : (k r : ℕ) → r * 2 ^ k < 2 ^ 16 → steps k r ≡ r * 2 ^ k
small_steps zero r h = omega arith
small_steps (suc k) r h =
    let e : r * 2 ^ suc k ≡ r * 2 * 2 ^ k = ap (λ v. r * v) (pow-suc 2 k ∙ mul_comm (2 ^ k) 2) ∙ sym (mul_assoc r 2 (2 ^ k)) in
    let b : r * 2 * 2 ^ k < 2 ^ 16 = rw (← e) h in
    let g : r * 2 * 1 ≤ r * 2 * 2 ^ k = mul-le-mul_left (r * 2) (pow_pos k) in
    let l : r * 2 < 2 ^ 16 = omega arith in
    let s : step r ≡ r * 2 = step_zero r (div-eq_of_lt (omega arith)) ∙ mod-eq_of_lt l in
    ap (steps k) s ∙ small_steps k (r * 2) b ∙ sym e

-- a byte in the lower half only moves
pub pass_low : (x : ℕ) → x < 256 → pass x ≡ x * 2 ^ 8
unfolding pass
pass_low x h = small_steps 8 x (omega arith)

pub byte_step-is : (r x : ℕ) → byte_step r x ≡ pass (bit_xor r (x * 2 ^ 8))
unfolding byte_step pass
byte_step-is r x = refl

abbrev pub by_tables : List ℕ → ℕ
by_tables [] = 0
by_tables (x ∷ xs) = bit_xor (entry (length xs) x) (by_tables xs)

pub register_by_tables : (r : ℕ) (xs : List ℕ) → register r xs ≡ bit_xor (later (length xs) r) (by_tables xs)
unfolding entry
register_by_tables r [] = sym (xor_zero_r r)
register_by_tables r (x ∷ xs) =
    ap (λ v. register v xs) (byte_step-is r x ∙ pass-xor r (x * 2 ^ 8))
    ∙ register_by_tables (bit_xor (pass r) (pass (x * 2 ^ 8))) xs
    ∙ ap (λ v. bit_xor v (by_tables xs)) (later-xor (length xs) (pass r) (pass (x * 2 ^ 8)))
    ∙ xor_assoc (later (length xs) (pass r)) (entry (length xs) x) (by_tables xs)

-- a register of two bytes, by the tables of its bytes
pub later_halves : (n r : ℕ) → r < 2 ^ 16 → later (suc (suc n)) r ≡ bit_xor (entry (suc n) (r / 256)) (entry n (r % 256))
unfolding entry
later_halves n r h =
    let e : bit_xor (r / 256 * 2 ^ 8) (r % 256) ≡ r / 256 * 2 ^ 8 + r % 256 = xor_shifted (r / 256) 8 (r % 256) (omega arith) in
    let s : r / 256 * 2 ^ 8 + r % 256 ≡ r = omega arith in
    ap (later (suc (suc n))) (sym (e ∙ s))
    ∙ later-xor (suc (suc n)) (r / 256 * 2 ^ 8) (r % 256)
    ∙ ap (λ v. bit_xor (entry (suc n) (r / 256)) (later (suc n) v)) (pass_low (r % 256) (omega arith))

pub entry-xor : (k a b : ℕ) → entry k (bit_xor a b) ≡ bit_xor (entry k a) (entry k b)
unfolding entry
entry-xor k a b =
    let e = xor_block 8 a b 0 0 (lit< tt) (lit< tt) in
    let p : (x : ℕ) → x * 2 ^ 8 + 0 ≡ x * 2 ^ 8 = λ x. omega arith in
    let q : bit_xor a b * 2 ^ 8 + bit_xor 0 0 ≡ bit_xor a b * 2 ^ 8 = omega arith in
    ap (λ v. later k (pass v)) (sym q ∙ sym e ∙ ap (λ v. bit_xor v (b * 2 ^ 8 + 0)) (p a) ∙ ap (bit_xor (a * 2 ^ 8)) (p b))
    ∙ ap (later k) (pass-xor (a * 2 ^ 8) (b * 2 ^ 8)) ∙ later-xor k (pass (a * 2 ^ 8)) (pass (b * 2 ^ 8))

pub peel : (xs : List ℕ) (i n k : ℕ) → length xs ≡ n → i + suc k ≡ n →
    by_tables (drop i xs) ≡ bit_xor (entry k (get_or xs i 0)) (by_tables (drop (suc i) xs))
peel [] i n k e f = absurd (omega arith)
peel (x ∷ xs) zero n k e f = let h : length xs ≡ k = omega arith in rw h refl
peel (x ∷ xs) (suc i) n k e f = peel xs i (length xs) k refl (omega arith)

-- two bytes with the register in front of them, and n more, by the tables
pub sliced : (n r h l : ℕ) (xs : List ℕ) → length xs ≡ suc (suc n) → r < 2 ^ 16 → h ≡ r / 256 → l ≡ r % 256 →
    bit_xor (entry (suc n) (bit_xor h (get_or xs 0 0))) (bit_xor (entry n (bit_xor l (get_or xs 1 0))) (by_tables (drop 2 xs))) ≡ register r xs
sliced n r h l xs e b p q =
    let s1 = entry-xor (suc n) h (get_or xs 0 0) in
    let s2 = entry-xor n l (get_or xs 1 0) in
    let s3 : by_tables xs ≡ bit_xor (entry (suc n) (get_or xs 0 0)) (bit_xor (entry n (get_or xs 1 0)) (by_tables (drop 2 xs))) =
    peel xs 0 (suc (suc n)) (suc n) e (omega arith) ∙ ap (bit_xor (entry (suc n) (get_or xs 0 0))) (peel xs 1 (suc (suc n)) n e (omega arith)) in
    let s4 = swap_middle (entry (suc n) h) (entry (suc n) (get_or xs 0 0)) (entry n l) (bit_xor (entry n (get_or xs 1 0)) (by_tables (drop 2 xs))) in
    let s5 = xor_assoc (entry n l) (entry n (get_or xs 1 0)) (by_tables (drop 2 xs)) in
    let s6 : later (suc (suc n)) r ≡ bit_xor (entry (suc n) h) (entry n l) = later_halves n r b ∙ ap (λ v. bit_xor (entry (suc n) v) (entry n (r % 256))) (sym p) ∙ ap (λ v. bit_xor (entry (suc n) h) (entry n v)) (sym q) in
    let s7 : register r xs ≡ bit_xor (later (suc (suc n)) r) (by_tables xs) = register_by_tables r xs ∙ ap (λ v. bit_xor (later v r) (by_tables xs)) e in
    cc

drop-past : (xs : List ℕ) (n : ℕ) → length xs ≤ n → drop n xs ≡ []
drop-past [] zero h = refl
drop-past [] (suc n) h = refl
drop-past (x ∷ xs) zero h = absurd (omega arith)
drop-past (x ∷ xs) (suc n) h = drop-past xs n (omega arith)

-- the fourteen bytes from the third on
pub fourteen : (xs : List ℕ) → length xs ≡ 16 →
    by_tables (drop 2 xs) ≡
    bit_xor (entry 13 (get_or xs 2 0)) (bit_xor (entry 12 (get_or xs 3 0)) (bit_xor (entry 11 (get_or xs 4 0)) (bit_xor (entry 10 (get_or xs 5 0)) (bit_xor (entry 9 (get_or xs 6 0)) (bit_xor (entry 8 (get_or xs 7 0)) (bit_xor (entry 7 (get_or xs 8 0)) (bit_xor (entry 6 (get_or xs 9 0)) (bit_xor (entry 5 (get_or xs 10 0)) (bit_xor (entry 4 (get_or xs 11 0)) (bit_xor (entry 3 (get_or xs 12 0)) (bit_xor (entry 2 (get_or xs 13 0)) (bit_xor (entry 1 (get_or xs 14 0)) (entry 0 (get_or xs 15 0))))))))))))))
fourteen xs e =
    let p2 = peel xs 2 16 13 e (omega arith) in
    let p3 = peel xs 3 16 12 e (omega arith) in
    let p4 = peel xs 4 16 11 e (omega arith) in
    let p5 = peel xs 5 16 10 e (omega arith) in
    let p6 = peel xs 6 16 9 e (omega arith) in
    let p7 = peel xs 7 16 8 e (omega arith) in
    let p8 = peel xs 8 16 7 e (omega arith) in
    let p9 = peel xs 9 16 6 e (omega arith) in
    let p10 = peel xs 10 16 5 e (omega arith) in
    let p11 = peel xs 11 16 4 e (omega arith) in
    let p12 = peel xs 12 16 3 e (omega arith) in
    let p13 = peel xs 13 16 2 e (omega arith) in
    let p14 = peel xs 14 16 1 e (omega arith) in
    let p15 = peel xs 15 16 0 e (omega arith) in
    let z : by_tables (drop 16 xs) ≡ 0 = ap by_tables (drop-past xs 16 (omega arith)) in
    let y = xor_zero_r (entry 0 (get_or xs 15 0)) in
    cc

-- the two bytes of four from the third on
pub two : (xs : List ℕ) → length xs ≡ 4 → by_tables (drop 2 xs) ≡ bit_xor (entry 1 (get_or xs 2 0)) (entry 0 (get_or xs 3 0))
two xs e =
    let p2 = peel xs 2 4 1 e (omega arith) in
    let p3 = peel xs 3 4 0 e (omega arith) in
    let z : by_tables (drop 4 xs) ≡ 0 = ap by_tables (drop-past xs 4 (omega arith)) in
    let y = xor_zero_r (entry 0 (get_or xs 3 0)) in
    cc

-- eight bytes, by the tables
pub eight : (xs : List ℕ) → length xs ≡ 8 →
    by_tables xs ≡ bit_xor (entry 7 (get_or xs 0 0)) (bit_xor (entry 6 (get_or xs 1 0)) (bit_xor (entry 5 (get_or xs 2 0)) (bit_xor (entry 4 (get_or xs 3 0)) (bit_xor (entry 3 (get_or xs 4 0)) (bit_xor (entry 2 (get_or xs 5 0)) (bit_xor (entry 1 (get_or xs 6 0)) (entry 0 (get_or xs 7 0))))))))
eight xs e =
    let p0 = peel xs 0 8 7 e (omega arith) in
    let p1 = peel xs 1 8 6 e (omega arith) in
    let p2 = peel xs 2 8 5 e (omega arith) in
    let p3 = peel xs 3 8 4 e (omega arith) in
    let p4 = peel xs 4 8 3 e (omega arith) in
    let p5 = peel xs 5 8 2 e (omega arith) in
    let p6 = peel xs 6 8 1 e (omega arith) in
    let p7 = peel xs 7 8 0 e (omega arith) in
    let z : by_tables (drop 8 xs) ≡ 0 = ap by_tables (drop-past xs 8 (omega arith)) in
    let y = xor_zero_r (entry 0 (get_or xs 7 0)) in
    cc

-- one byte, by the first table
pub by_one : (r x : ℕ) → r < 2 ^ 16 → bit_xor (r % 256 * 256 % 2 ^ 16) (entry 0 (bit_xor (r / 256) x)) ≡ byte_step r x
unfolding entry
by_one r x h =
    let e : bit_xor (r / 256 * 2 ^ 8) (r % 256) ≡ r / 256 * 2 ^ 8 + r % 256 = xor_shifted (r / 256) 8 (r % 256) (omega arith) in
    let s : r / 256 * 2 ^ 8 + r % 256 ≡ r = omega arith in
    let low : pass (r % 256) ≡ r % 256 * 2 ^ 8 = pass_low (r % 256) (omega arith) in
    let whole : pass r ≡ bit_xor (entry 0 (r / 256)) (r % 256 * 2 ^ 8) =
    ap pass (sym (e ∙ s)) ∙ pass-xor (r / 256 * 2 ^ 8) (r % 256) ∙ ap (bit_xor (entry 0 (r / 256))) low in
    let small : r % 256 * 2 ^ 8 % 2 ^ 16 ≡ r % 256 * 2 ^ 8 = mod-eq_of_lt (omega arith) in
    let one : byte_step r x ≡ bit_xor (pass r) (entry 0 x) = byte_step-is r x ∙ pass-xor r (x * 2 ^ 8) in
    ap (λ v. bit_xor v (entry 0 (bit_xor (r / 256) x))) small
    ∙ ap (bit_xor (r % 256 * 2 ^ 8)) (entry-xor 0 (r / 256) x)
    ∙ sym (xor_assoc (r % 256 * 2 ^ 8) (entry 0 (r / 256)) (entry 0 x))
    ∙ ap (λ v. bit_xor v (entry 0 x)) (xor_comm (r % 256 * 2 ^ 8) (entry 0 (r / 256)) ∙ sym whole)
    ∙ sym one
