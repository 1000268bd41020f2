-- Sparse multiples of the polynomial: 64 bytes on is 28, 8 and 1 bytes on, 128 bytes on is 56, 16 and 2 bytes on, and 256 bytes on is 112, 32 and 4 bytes on.
use Rattle.std.proofs.Common.{◌≡◌, ℕ, zero, suc, ◌+◌, ◌*◌, ◌/◌, ◌%◌, ◌^◌, ◌<◌, refl, sym, ap, ◌∙◌, subst, arith}
use Rattle.std.specs.Prelude.{bit_xor}
use Rattle.std.specs.Int.Bits.{xor_assoc, xor_comm, xor_zero_r, xor_self, xor_shifted}
use Rattle.std.proofs.Math.Nat.{pow-suc, mod-eq_of_lt, div-eq_of_lt}
use Rattle.pi_guard.specs.Register.{step}
use Rattle.pi_guard.specs.AfterZeros.{pass, later}
use Rattle.pi_guard.proofs.RegisterLemmas.{step_zero}
use Rattle.pi_guard.proofs.Linear.{swap_middle, step-xor, later-xor}
use Rattle.pi_guard.proofs.Folds.{later_zero}

-- so many bytes on is i, j and k bytes on
abbrev pub Sparse : ℕ → ℕ → ℕ → ℕ → ℕ → Type 0
Sparse w i j k r = later w r ≡ bit_xor (later i r) (bit_xor (later j r) (later k r))

sparse-xor : (w i j k a b : ℕ) → Sparse w i j k a → Sparse w i j k b → Sparse w i j k (bit_xor a b)
sparse-xor w i j k a b p q =
    later-xor w a b ∙ ap (λ v. bit_xor v (later w b)) p
    ∙ ap (bit_xor (bit_xor (later i a) (bit_xor (later j a) (later k a)))) q
    ∙ swap_middle (later i a) (bit_xor (later j a) (later k a)) (later i b) (bit_xor (later j b) (later k b))
    ∙ ap (bit_xor (bit_xor (later i a) (later i b))) (swap_middle (later j a) (later k a) (later j b) (later k b))
    ∙ ap (λ v. bit_xor v (bit_xor (bit_xor (later j a) (later j b)) (bit_xor (later k a) (later k b)))) (sym (later-xor i a b))
    ∙ ap (λ v. bit_xor (later i (bit_xor a b)) (bit_xor v (bit_xor (later k a) (later k b)))) (sym (later-xor j a b))
    ∙ ap (λ v. bit_xor (later i (bit_xor a b)) (bit_xor (later j (bit_xor a b)) v)) (sym (later-xor k a b))

pass_step : (r : ℕ) → pass (step r) ≡ step (pass r)
unfolding pass
pass_step r = refl

later_step : (k r : ℕ) → later k (step r) ≡ step (later k r)
later_step zero r = refl
later_step (suc k) r = ap (later k) (pass_step r) ∙ later_step k (pass r)

sparse_step : (w i j k r : ℕ) → Sparse w i j k r → Sparse w i j k (step r)
sparse_step w i j k r p =
    later_step w r ∙ ap step p ∙ step-xor (later i r) (bit_xor (later j r) (later k r))
    ∙ ap (bit_xor (step (later i r))) (step-xor (later j r) (later k r))
    ∙ ap (λ v. bit_xor v (bit_xor (step (later j r)) (step (later k r)))) (sym (later_step i r))
    ∙ ap (λ v. bit_xor (later i (step r)) (bit_xor v (step (later k r)))) (sym (later_step j r))
    ∙ ap (λ v. bit_xor (later i (step r)) (bit_xor (later j (step r)) v)) (sym (later_step k r))

sparse_zero : (w i j k : ℕ) → Sparse w i j k 0
sparse_zero w i j k =
    later_zero w ∙ sym (ap (λ v. bit_xor v (bit_xor (later j 0) (later k 0))) (later_zero i) ∙ ap (λ v. bit_xor 0 (bit_xor v (later k 0))) (later_zero j) ∙ ap (λ v. bit_xor 0 (bit_xor 0 v)) (later_zero k))

sparse_bit : (w i j k : ℕ) → Sparse w i j k 1 → (b : ℕ) → b < 2 → Sparse w i j k b
sparse_bit w i j k one zero h = sparse_zero w i j k
sparse_bit w i j k one (suc zero) h = one
sparse_bit w i j k one (suc (suc b)) h = absurd (omega arith)

-- it holds of every register where it holds of 1, bit by bit
sparse_below : (w i j k : ℕ) → Sparse w i j k 1 → (n r : ℕ) → r < 2 ^ n → r < 2 ^ 16 → Sparse w i j k r
sparse_below w i j k one zero r h l =
    let e : r ≡ 0 = omega arith in
    subst (Sparse w i j k) (sym e) (sparse_zero w i j k)
sparse_below w i j k one (suc n) r h l =
    let q = r / 2 in
    let p : 2 ^ suc n ≡ 2 ^ n * 2 = pow-suc 2 n in
    let s : step q ≡ q * 2 = step_zero q (div-eq_of_lt (omega arith)) ∙ mod-eq_of_lt (omega arith) in
    let x : bit_xor (q * 2 ^ 1) (r % 2) ≡ q * 2 ^ 1 + r % 2 = xor_shifted q 1 (r % 2) (omega arith) in
    let e : bit_xor (step q) (r % 2) ≡ r = ap (λ v. bit_xor v (r % 2)) s ∙ x ∙ omega arith in
    let below = sparse_below w i j k one n q (omega arith) (omega arith) in
    subst (Sparse w i j k) e (sparse-xor w i j k (step q) (r % 2) (sparse_step w i j k q below) (sparse_bit w i j k one (r % 2) (omega arith)))

one_64 : Sparse 64 28 8 1 1
unfolding pass
one_64 = refl

one_128 : Sparse 128 56 16 2 1
unfolding pass
one_128 = refl

one_256 : Sparse 256 112 32 4 1
unfolding pass
one_256 = refl

pub sparse_64 : (r : ℕ) → r < 2 ^ 16 → Sparse 64 28 8 1 r
sparse_64 r h = sparse_below 64 28 8 1 one_64 16 r h h

pub sparse_128 : (r : ℕ) → r < 2 ^ 16 → Sparse 128 56 16 2 r
sparse_128 r h = sparse_below 128 56 16 2 one_128 16 r h h

pub sparse_256 : (r : ℕ) → r < 2 ^ 16 → Sparse 256 112 32 4 r
sparse_256 r h = sparse_below 256 112 32 4 one_256 16 r h h

pub later-add : (j k r : ℕ) → later j (later k r) ≡ later (j + k) r
later-add j zero r = let e : j ≡ j + 0 = omega arith in ap (λ v. later v r) e
later-add j (suc k) r = let e : suc (j + k) ≡ j + suc k = omega arith in later-add j k (pass r) ∙ ap (λ v. later v r) e

pub cancel : (x y : ℕ) → bit_xor (bit_xor x y) x ≡ y
cancel x y = ap (λ v. bit_xor v x) (xor_comm x y) ∙ xor_assoc y x x ∙ ap (bit_xor y) (xor_self x) ∙ xor_zero_r y

pub cancel_both : (l u m : ℕ) → bit_xor (bit_xor l u) (bit_xor m u) ≡ bit_xor l m
cancel_both l u m = swap_middle l u m u ∙ ap (bit_xor (bit_xor l m)) (xor_self u) ∙ xor_zero_r (bit_xor l m)

-- the sums of two rows of three
pub by_columns : (a b c d e f : ℕ) → bit_xor (bit_xor (bit_xor a b) c) (bit_xor (bit_xor d e) f) ≡ bit_xor (bit_xor (bit_xor a d) (bit_xor b e)) (bit_xor c f)
by_columns a b c d e f = swap_middle (bit_xor a b) c (bit_xor d e) f ∙ ap (λ v. bit_xor v (bit_xor c f)) (swap_middle a b d e)
