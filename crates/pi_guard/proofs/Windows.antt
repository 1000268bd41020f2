-- The steps of the window.
use Rattle.std.proofs.Common.{◌≡◌, ℕ, suc, ◌+◌, ◌/◌, ◌%◌, ◌^◌, ◌<◌, List, [], ◌∷◌, ◌++◌, length, take, drop, replicate, bit_and, sym, ap, ◌∙◌, arith, take-add}
use Rattle.std.specs.Prelude.{bit_xor}
use Rattle.std.proofs.lemmas.Nat.{and_mask}
use lib.Lanes.{zip2, chunk}
use Rattle.pi_guard.specs.Register.{register}
use Rattle.pi_guard.proofs.RegisterLemmas.{register-append}
use Rattle.pi_guard.proofs.Folds.{joined}
use Rattle.pi_guard.proofs.Lookup.{zeros_xor}

pub in_front : (n r : ℕ) (xs rest : List ℕ) → length xs ≡ suc (suc n) → r < 2 ^ 16 →
    register 0 (zip2 bit_xor (r / 256 ∷ bit_and r 255 ∷ replicate n 0) xs ++ rest) ≡ register r (xs ++ rest)
in_front n r [] rest l h = absurd (omega arith)
in_front n r (x ∷ []) rest l h = absurd (omega arith)
in_front n r (x ∷ y ∷ zs) rest l h =
    let low : bit_and r 255 ≡ r % 256 = and_mask r 8 in
    ap (λ v. register 0 (bit_xor (r / 256) x ∷ bit_xor (bit_and r 255) y ∷ (v ++ rest))) (zeros_xor n zs (omega arith))
    ∙ ap (λ v. register 0 (bit_xor (r / 256) x ∷ bit_xor v y ∷ (zs ++ rest))) low
    ∙ sym (joined r x y (zs ++ rest) h)

pub behind_front : (n h l : ℕ) (xs : List ℕ) → length xs ≡ suc (suc n) → drop 2 (zip2 bit_xor (h ∷ l ∷ replicate n 0) xs) ≡ drop 2 xs
behind_front n h l [] e = absurd (omega arith)
behind_front n h l (x ∷ []) e = absurd (omega arith)
behind_front n h l (x ∷ y ∷ zs) e = zeros_xor n zs (omega arith)

pub more : (width r at : ℕ) (xs : List ℕ) → register (register r (take at xs)) (chunk at width xs) ≡ register r (take (at + width) xs)
more width r at xs = sym (register-append r (take at xs) (chunk at width xs)) ∙ ap (register r) (sym (take-add at width xs))
