-- The step of a reflected register is linear over xor, and undoes a doubling: so the register after some bytes is the sum of what each leaves.
use Rattle.std.proofs.Common.{◌≡◌, ℕ, zero, suc, ◌+◌, ◌*◌, ◌/◌, ◌%◌, ◌<◌, ◌^◌, Bool, true, false, cond, eqb, List, [], ◌∷◌, ◌++◌, length, get_or, take, drop, inl, inr, refl, sym, ap, ◌∙◌, arith, lit<, w64}
use Rattle.std.specs.Prelude.{bit_xor}
use Rattle.std.specs.Int.{from_le_bytes, to_le_bytes}
use Rattle.std.specs.Int.Bits.{xor_assoc, xor_comm, xor_shifted, xor_mod, xor_self, xor_shr, xor_zero_l, xor_zero_r}
use Rattle.std.proofs.Math.Nat.{pow-suc}
use Rattle.std.proofs.lemmas.Nat.{le_bytes_8}
use Rattle.std.proofs.lemmas.Bool.{cases_lt}
use Rattle.std.proofs.lemmas.List.{get_or_past, get_or-drop, get_or-take, length-drop, length-take-le, take-append-drop}
use Rattle.pi_guard.specs.Guards.{plus}
use Rattle.pi_guard.proofs.Linear.{swap_middle}
use Rattle.wide_guard.specs.Registers.{step, steps, pass, later, after_8, after_16, entry, byte_step, register}

digits : (u v : ℕ) → u < 2 → v < 2 → plus (eqb u 1) (eqb v 1) ≡ eqb (bit_xor u v) 1
digits zero zero p q = refl
digits zero (suc zero) p q = refl
digits (suc zero) zero p q = refl
digits (suc zero) (suc zero) p q = refl
digits (suc (suc u)) v p q = absurd (omega arith)
digits zero (suc (suc v)) p q = absurd (omega arith)
digits (suc zero) (suc (suc v)) p q = absurd (omega arith)

-- the leading bit of a sum, and what is behind it
pub odd-xor : (a b : ℕ) → plus (eqb (a % 2) 1) (eqb (b % 2) 1) ≡ eqb (bit_xor a b % 2) 1
odd-xor a b = digits (a % 2) (b % 2) (omega arith) (omega arith) ∙ ap (λ v. eqb v 1) (sym (xor_mod a b 1))

pub half-xor : (a b : ℕ) → bit_xor a b / 2 ≡ bit_xor (a / 2) (b / 2)
half-xor a b = xor_shr a b 1

taken : ℕ → Bool → ℕ
taken p b = cond b p 0

taken-plus : (p : ℕ) (s t : Bool) → taken p (plus s t) ≡ bit_xor (taken p s) (taken p t)
unfolding taken
taken-plus p true true = sym (xor_self p)
taken-plus p true false = sym (xor_zero_r p)
taken-plus p false true = sym (xor_zero_l p)
taken-plus p false false = refl

parts : (p : ℕ) (t : Bool) (x : ℕ) → cond t (bit_xor x p) x ≡ bit_xor x (taken p t)
unfolding taken
parts p true x = refl
parts p false x = sym (xor_zero_r x)

step_parts : (p r : ℕ) → step p r ≡ bit_xor (r / 2) (taken p (eqb (r % 2) 1))
step_parts p r = parts p (eqb (r % 2) 1) (r / 2)

pub step-xor : (p a b : ℕ) → step p (bit_xor a b) ≡ bit_xor (step p a) (step p b)
step-xor p a b =
    step_parts p (bit_xor a b)
    ∙ ap (λ v. bit_xor v (taken p (eqb (bit_xor a b % 2) 1))) (half-xor a b)
    ∙ ap (bit_xor (bit_xor (a / 2) (b / 2))) (ap (taken p) (sym (odd-xor a b)) ∙ taken-plus p (eqb (a % 2) 1) (eqb (b % 2) 1))
    ∙ swap_middle (a / 2) (b / 2) (taken p (eqb (a % 2) 1)) (taken p (eqb (b % 2) 1))
    ∙ ap (bit_xor (bit_xor (a / 2) (taken p (eqb (a % 2) 1)))) (sym (step_parts p b))
    ∙ ap (λ v. bit_xor v (step p b)) (sym (step_parts p a))

steps-xor : (p k a b : ℕ) → steps p k (bit_xor a b) ≡ bit_xor (steps p k a) (steps p k b)
steps-xor p zero a b = refl
steps-xor p (suc k) a b = ap (steps p k) (step-xor p a b) ∙ steps-xor p k (step p a) (step p b)

pub pass-xor : (p a b : ℕ) → pass p (bit_xor a b) ≡ bit_xor (pass p a) (pass p b)
unfolding pass
pass-xor p a b = steps-xor p 8 a b

pub later-xor : (p k a b : ℕ) → later p k (bit_xor a b) ≡ bit_xor (later p k a) (later p k b)
later-xor p zero a b = refl
later-xor p (suc k) a b = ap (later p k) (pass-xor p a b) ∙ later-xor p k (pass p a) (pass p b)

pub later-later : (p k n r : ℕ) → later p k (later p n r) ≡ later p (n + k) r
later-later p k zero r = let e : 0 + k ≡ k = omega arith in ap (λ v. later p v r) (sym e)
later-later p k (suc n) r = let e : suc n + k ≡ suc (n + k) = omega arith in later-later p k n (pass p r) ∙ ap (λ v. later p v r) (sym e)

-- an even register is halved
step_even : (p x : ℕ) → step p (x * 2) ≡ x
step_even p x =
    let e : x * 2 % 2 ≡ 0 = omega arith in
    let h : x * 2 / 2 ≡ x = omega arith in
    rw (e, h) refl

pub pass_byte : (p x : ℕ) → pass p (x * 2 ^ 8) ≡ x
unfolding pass
pass_byte p x =
    let s : x * 2 ^ 8 ≡ x * 2 * 2 * 2 * 2 * 2 * 2 * 2 * 2 = omega arith in
    ap (steps p 8) s
    ∙ ap (steps p 7) (step_even p (x * 2 * 2 * 2 * 2 * 2 * 2 * 2))
    ∙ ap (steps p 6) (step_even p (x * 2 * 2 * 2 * 2 * 2 * 2))
    ∙ ap (steps p 5) (step_even p (x * 2 * 2 * 2 * 2 * 2))
    ∙ ap (steps p 4) (step_even p (x * 2 * 2 * 2 * 2))
    ∙ ap (steps p 3) (step_even p (x * 2 * 2 * 2))
    ∙ ap (steps p 2) (step_even p (x * 2 * 2))
    ∙ ap (steps p 1) (step_even p (x * 2))
    ∙ step_even p x

-- a register's lowest byte is looked up, and the others move
pub pass_parts : (p r : ℕ) → pass p r ≡ bit_xor (r / 256) (pass p (r % 256))
pass_parts p r =
    let e = xor_shifted (r / 256) 8 (r % 256) (omega arith) in
    let s : r / 256 * 2 ^ 8 + r % 256 ≡ r = omega arith in
    ap (pass p) (sym s ∙ sym e) ∙ pass-xor p (r / 256 * 2 ^ 8) (r % 256) ∙ ap (λ v. bit_xor v (pass p (r % 256))) (pass_byte p (r / 256))

pub register-append : (p r : ℕ) (xs ys : List ℕ) → register p r (xs ++ ys) ≡ register p (register p r xs) ys
register-append p r [] ys = refl
register-append p r (x ∷ xs) ys = register-append p (byte_step p r x) xs ys

-- what these bytes leave with m bytes of zeros behind them
abbrev pub by_tables : ℕ → ℕ → List ℕ → ℕ
by_tables p m [] = 0
by_tables p m (x ∷ xs) = bit_xor (entry p (m + length xs) (x % 256)) (by_tables p m xs)

pub register_by_tables : (p r : ℕ) (xs : List ℕ) → register p r xs ≡ bit_xor (later p (length xs) r) (by_tables p 0 xs)
unfolding entry byte_step
register_by_tables p r [] = sym (xor_zero_r r)
register_by_tables p r (x ∷ xs) =
    let e : 0 + length xs ≡ length xs = omega arith in
    ap (λ v. register p v xs) (pass-xor p r (x % 256))
    ∙ register_by_tables p (bit_xor (pass p r) (pass p (x % 256))) xs
    ∙ ap (λ v. bit_xor v (by_tables p 0 xs)) (later-xor p (length xs) (pass p r) (pass p (x % 256)))
    ∙ xor_assoc (later p (length xs) (pass p r)) (later p (length xs) (pass p (x % 256))) (by_tables p 0 xs)
    ∙ ap (λ k. bit_xor (later p (length xs) (pass p r)) (bit_xor (later p k (pass p (x % 256))) (by_tables p 0 xs))) (sym e)

pub none_later : (p k : ℕ) → later p k 0 ≡ 0
unfolding pass
none_later p zero = refl
none_later p (suc k) = none_later p k

pub far : (p m : ℕ) (xs : List ℕ) → by_tables p m xs ≡ later p m (by_tables p 0 xs)
unfolding entry
far p m [] = sym (none_later p m)
far p m (x ∷ xs) =
    let e : m + length xs ≡ 0 + length xs + m = omega arith in
    ap (λ k. bit_xor (later p k (pass p (x % 256))) (by_tables p m xs)) e
    ∙ ap (λ v. bit_xor v (by_tables p m xs)) (sym (later-later p m (0 + length xs) (pass p (x % 256))))
    ∙ ap (bit_xor (later p m (later p (0 + length xs) (pass p (x % 256))))) (far p m xs)
    ∙ sym (later-xor p m (later p (0 + length xs) (pass p (x % 256))) (by_tables p 0 xs))

-- the low n bytes of a number, the lowest first
abbrev pub low_bytes : ℕ → ℕ → List ℕ
low_bytes zero w = []
low_bytes (suc n) w = w % 256 ∷ low_bytes n (w / 256)

low_bytes-length : (n w : ℕ) → length (low_bytes n w) ≡ n
low_bytes-length zero w = refl
low_bytes-length (suc n) w = ap suc (low_bytes-length n (w / 256))

-- a number of n bytes as a register, by the tables of its bytes
of_bytes : (p n w : ℕ) → w < 256 ^ n → later p n w ≡ by_tables p 0 (low_bytes n w)
unfolding entry
of_bytes p zero w h = omega arith
of_bytes p (suc n) w h =
    let t : 256 ^ suc n ≡ 256 ^ n * 256 = pow-suc 256 n in
    let b : w / 256 < 256 ^ n = omega arith in
    let l = low_bytes-length n (w / 256) in
    let e : 0 + length (low_bytes n (w / 256)) ≡ n = omega arith in
    let m : w % 256 % 256 ≡ w % 256 = omega arith in
    ap (later p n) (pass_parts p w) ∙ later-xor p n (w / 256) (pass p (w % 256)) ∙ xor_comm (later p n (w / 256)) (later p n (pass p (w % 256)))
    ∙ ap (bit_xor (later p n (pass p (w % 256)))) (of_bytes p n (w / 256) b)
    ∙ ap (λ k. bit_xor (later p k (pass p (w % 256))) (by_tables p 0 (low_bytes n (w / 256)))) (sym e)
    ∙ ap (λ v. bit_xor (later p (0 + length (low_bytes n (w / 256))) (pass p v)) (by_tables p 0 (low_bytes n (w / 256)))) (sym m)

eight_bytes : (w : ℕ) → low_bytes 8 w ≡ to_le_bytes w64 w
eight_bytes w =
    let e1 : w / 256 % 256 ≡ w / 256 ^ 1 % 256 = omega arith in
    let e2 : w / 256 / 256 % 256 ≡ w / 256 ^ 2 % 256 = omega arith in
    let e3 : w / 256 / 256 / 256 % 256 ≡ w / 256 ^ 3 % 256 = omega arith in
    let e4 : w / 256 / 256 / 256 / 256 % 256 ≡ w / 256 ^ 4 % 256 = omega arith in
    let e5 : w / 256 / 256 / 256 / 256 / 256 % 256 ≡ w / 256 ^ 5 % 256 = omega arith in
    let e6 : w / 256 / 256 / 256 / 256 / 256 / 256 % 256 ≡ w / 256 ^ 6 % 256 = omega arith in
    let e7 : w / 256 / 256 / 256 / 256 / 256 / 256 / 256 % 256 ≡ w / 256 ^ 7 % 256 = omega arith in
    cc

-- a word of eight bytes, by the tables of its bytes
pub of_word : (p m w : ℕ) → w < 2 ^ 64 → later p (8 + m) w ≡ by_tables p m (to_le_bytes w64 w)
of_word p m w h =
    let b : w < 256 ^ 8 = omega arith in
    sym (later-later p m 8 w) ∙ ap (later p m) (of_bytes p 8 w b ∙ ap (by_tables p 0) (eight_bytes w)) ∙ sym (far p m (to_le_bytes w64 w))

-- eight bytes by themselves are a word
tables_of_word : (p w : ℕ) (xs : List ℕ) → w < 2 ^ 64 → length xs ≡ 8 → ((i : ℕ) → get_or xs i 0 < 256) → w ≡ from_le_bytes w64 xs → later p 8 w ≡ by_tables p 0 xs
tables_of_word p w xs hw l bytes e =
    let back : to_le_bytes w64 w ≡ xs = le_bytes_8 xs w l bytes e in
    let z : 8 + 0 ≡ 8 = omega arith in
    ap (λ k. later p k w) (sym z) ∙ of_word p 0 w hw ∙ ap (by_tables p 0) back

-- and with a register in front of them
word_with : (p r w : ℕ) (xs : List ℕ) → w < 2 ^ 64 → length xs ≡ 8 → ((i : ℕ) → get_or xs i 0 < 256) → w ≡ from_le_bytes w64 xs → later p 8 (bit_xor w r) ≡ register p r xs
word_with p r w xs hw l bytes e =
    later-xor p 8 w r
    ∙ xor_comm (later p 8 w) (later p 8 r)
    ∙ ap (bit_xor (later p 8 r)) (tables_of_word p w xs hw l bytes e)
    ∙ ap (λ k. bit_xor (later p k r) (by_tables p 0 xs)) (sym l)
    ∙ sym (register_by_tables p r xs)

pub eight_with : (p r w : ℕ) (xs : List ℕ) → w < 2 ^ 64 → length xs ≡ 8 → ((i : ℕ) → get_or xs i 0 < 256) → w ≡ from_le_bytes w64 xs → after_8 p (bit_xor w r) ≡ register p r xs
unfolding after_8
eight_with p r w xs hw l bytes e = word_with p r w xs hw l bytes e

-- sixteen bytes are two words
pub sixteen_with : (p r x y : ℕ) (b : List ℕ) → x < 2 ^ 64 → y < 2 ^ 64 → length b ≡ 16 → ((i : ℕ) → get_or b i 0 < 256) → x ≡ from_le_bytes w64 (take 8 b) → y ≡ from_le_bytes w64 (drop 8 b) →
    bit_xor (after_16 p (bit_xor x r)) (after_8 p y) ≡ register p r b
unfolding after_8 after_16
sixteen_with p r x y b hx hy l bytes ex ey =
    let first = take 8 b in
    let last = drop 8 b in
    let lf : length first ≡ 8 = length-take-le 8 b (omega arith) in
    let ll : length last ≡ 8 = omega (arith, length-drop 8 b) in
    let bf : (i : ℕ) → get_or first i 0 < 256 = λ i. elim (cases_lt i 8) [
      | inl h ↦ rw (get_or-take 8 b i 0 h) (bytes i)
      | inr h ↦ rw (get_or_past first i 0 (omega arith)) (lit< tt)
    ] in
    let bl : (i : ℕ) → get_or last i 0 < 256 = λ i. rw (get_or-drop 8 b i 0) (bytes (8 + i)) in
    let s = register p r first in
    let front : later p 8 (bit_xor x r) ≡ s = word_with p r x first hx lf bf ex in
    let back : later p 8 y ≡ by_tables p 0 last = tables_of_word p y last hy ll bl ey in
    let both : later p 16 (bit_xor x r) ≡ later p 8 s = sym (later-later p 8 8 (bit_xor x r)) ∙ ap (later p 8) front in
    ap (λ v. bit_xor v (later p 8 y)) both
    ∙ ap (bit_xor (later p 8 s)) back
    ∙ ap (λ k. bit_xor (later p k s) (by_tables p 0 last)) (sym ll)
    ∙ sym (register_by_tables p s last)
    ∙ sym (register-append p r first last)
    ∙ ap (register p r) (take-append-drop 8 b)

-- the look-ups of a word's bytes

eight : (p m a b c d e f g h : ℕ) → a < 256 → b < 256 → c < 256 → d < 256 → e < 256 → f < 256 → g < 256 → h < 256 →
    by_tables p m (a ∷ b ∷ c ∷ d ∷ e ∷ f ∷ g ∷ h ∷ [])
    ≡ bit_xor (entry p (m + 7) a) (bit_xor (entry p (m + 6) b) (bit_xor (entry p (m + 5) c) (bit_xor (entry p (m + 4) d) (bit_xor (entry p (m + 3) e) (bit_xor (entry p (m + 2) f) (bit_xor (entry p (m + 1) g) (entry p (m + 0) h)))))))
eight p m a b c d e f g h ha hb hc hd he hf hg hh =
    let a1 : a % 256 ≡ a = omega arith in
    let b1 : b % 256 ≡ b = omega arith in
    let c1 : c % 256 ≡ c = omega arith in
    let d1 : d % 256 ≡ d = omega arith in
    let e1 : e % 256 ≡ e = omega arith in
    let f1 : f % 256 ≡ f = omega arith in
    let g1 : g % 256 ≡ g = omega arith in
    let h1 : h % 256 ≡ h = omega arith in
    let z = xor_zero_r (entry p (m + 0) h) in
    rw (a1, b1, c1, d1, e1, f1, g1, h1, z) refl

same_eight : {a b c d e f g h s t u v w x y z : ℕ} → a ≡ s → b ≡ t → c ≡ u → d ≡ v → e ≡ w → f ≡ x → g ≡ y → h ≡ z →
    bit_xor a (bit_xor b (bit_xor c (bit_xor d (bit_xor e (bit_xor f (bit_xor g h)))))) ≡ bit_xor s (bit_xor t (bit_xor u (bit_xor v (bit_xor w (bit_xor x (bit_xor y z))))))
same_eight i j k l m n o q = cc

looked_up : (p m w : ℕ) (bytes : List ℕ) (a b c d e f g h : ℕ) → w < 2 ^ 64 → bytes ≡ to_le_bytes w64 w →
    a ≡ entry p (m + 7) (get_or bytes 0 0) → b ≡ entry p (m + 6) (get_or bytes 1 0) → c ≡ entry p (m + 5) (get_or bytes 2 0) → d ≡ entry p (m + 4) (get_or bytes 3 0) →
    e ≡ entry p (m + 3) (get_or bytes 4 0) → f ≡ entry p (m + 2) (get_or bytes 5 0) → g ≡ entry p (m + 1) (get_or bytes 6 0) → h ≡ entry p (m + 0) (get_or bytes 7 0) →
    bit_xor a (bit_xor b (bit_xor c (bit_xor d (bit_xor e (bit_xor f (bit_xor g h)))))) ≡ later p (8 + m) w
looked_up p m w bytes a b c d e f g h hw same qa qb qc qd qe qf qg qh =
    let at : (k i : ℕ) → entry p k (get_or bytes i 0) ≡ entry p k (get_or (to_le_bytes w64 w) i 0) = λ k i. ap (λ l. entry p k (get_or l i 0)) same in
    same_eight (qa ∙ at (m + 7) 0) (qb ∙ at (m + 6) 1) (qc ∙ at (m + 5) 2) (qd ∙ at (m + 4) 3) (qe ∙ at (m + 3) 4) (qf ∙ at (m + 2) 5) (qg ∙ at (m + 1) 6) (qh ∙ at (m + 0) 7)
    ∙ sym (eight p m (w % 256) (w / 256 ^ 1 % 256) (w / 256 ^ 2 % 256) (w / 256 ^ 3 % 256) (w / 256 ^ 4 % 256) (w / 256 ^ 5 % 256) (w / 256 ^ 6 % 256) (w / 256 ^ 7 % 256)
    (omega arith) (omega arith) (omega arith) (omega arith) (omega arith) (omega arith) (omega arith) (omega arith))
    ∙ sym (of_word p m w hw)

pub near_word : (p w : ℕ) (bytes : List ℕ) (a b c d e f g h : ℕ) → w < 2 ^ 64 → bytes ≡ to_le_bytes w64 w →
    a ≡ entry p 7 (get_or bytes 0 0) → b ≡ entry p 6 (get_or bytes 1 0) → c ≡ entry p 5 (get_or bytes 2 0) → d ≡ entry p 4 (get_or bytes 3 0) →
    e ≡ entry p 3 (get_or bytes 4 0) → f ≡ entry p 2 (get_or bytes 5 0) → g ≡ entry p 1 (get_or bytes 6 0) → h ≡ entry p 0 (get_or bytes 7 0) →
    bit_xor a (bit_xor b (bit_xor c (bit_xor d (bit_xor e (bit_xor f (bit_xor g h)))))) ≡ after_8 p w
unfolding after_8
near_word p w bytes a b c d e f g h hw same qa qb qc qd qe qf qg qh = looked_up p 0 w bytes a b c d e f g h hw same qa qb qc qd qe qf qg qh

pub far_word : (p w : ℕ) (bytes : List ℕ) (a b c d e f g h : ℕ) → w < 2 ^ 64 → bytes ≡ to_le_bytes w64 w →
    a ≡ entry p 15 (get_or bytes 0 0) → b ≡ entry p 14 (get_or bytes 1 0) → c ≡ entry p 13 (get_or bytes 2 0) → d ≡ entry p 12 (get_or bytes 3 0) →
    e ≡ entry p 11 (get_or bytes 4 0) → f ≡ entry p 10 (get_or bytes 5 0) → g ≡ entry p 9 (get_or bytes 6 0) → h ≡ entry p 8 (get_or bytes 7 0) →
    bit_xor a (bit_xor b (bit_xor c (bit_xor d (bit_xor e (bit_xor f (bit_xor g h)))))) ≡ after_16 p w
unfolding after_16
far_word p w bytes a b c d e f g h hw same qa qb qc qd qe qf qg qh = looked_up p 8 w bytes a b c d e f g h hw same qa qb qc qd qe qf qg qh

-- one byte, by the first table
pub by_one : (p r x : ℕ) → x < 256 → bit_xor (bit_xor r x / 256) (entry p 0 (bit_xor r x % 256)) ≡ byte_step p r x
unfolding entry byte_step
by_one p r x h =
    let m : x % 256 ≡ x = omega arith in
    sym (ap (λ v. pass p (bit_xor r v)) m ∙ pass_parts p (bit_xor r x))
