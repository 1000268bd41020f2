-- Sixteen bytes by eight: the first eight are folded into the last ones.
use Rattle.std.proofs.Common.{◌≡◌, ℕ, suc, List, [], ◌∷◌, ◌++◌, length, map, drop, replicate, get_or, refl, sym, ap, ◌∙◌, arith, length-append, w8, Fits}
use Rattle.std.specs.Prelude.{bit_xor}
use Rattle.std.specs.Int.Bits.{xor_assoc, xor_comm}
use Rattle.std.proofs.lemmas.List.{length-map}
use Rattle.std.proofs.lemmas.Simd.{length-zip2}
use lib.Lanes.{zip2, chunk, Each1}
use Rattle.pi_guard.specs.Register.{register}
use Rattle.pi_guard.specs.AfterZeros.{later, entry}
use Rattle.pi_guard.proofs.Folds.{Splits, split_register}
use Rattle.pi_guard.proofs.Lookup.{IsBlock, zeros_xor}
use Rattle.pi_guard.proofs.Trailing.{zero-append, zero-xor}
use Rattle.pi_guard.proofs.Closing.{front_moved}

-- the first eight bytes behind eight zeros
abbrev pub behind_zeros : List ℕ → List ℕ
behind_zeros v = chunk 8 16 (replicate 16 0 ++ v)

-- eight bytes with as many behind them: what they owe one place before the last ones, and at those
eight_split : (f g : ℕ → ℕ) → Splits 8 1 f g → (b : ℕ) (bs q : List ℕ) → length bs ≡ 7 → length q ≡ 8 → Each1 (Fits w8) (b ∷ bs) →
    bit_xor (entry 8 (f b)) (register 0 (zip2 bit_xor (map f bs ++ 0 ∷ []) (zip2 bit_xor q (map g (b ∷ bs))))) ≡ register 0 ((b ∷ bs) ++ q)
eight_split f g s b bs q lb lq h =
    let p = b ∷ bs in
    let ws = map f bs ++ 0 ∷ [] in
    let G = register 0 (map g p) in
    let F = register 0 (map f p) in
    let W = register 0 ws in
    let Q = register 0 q in
    let lm : length (map f bs) ≡ 7 = length-map bs f ∙ lb in
    let lw : length ws ≡ 8 = omega (arith, length-append (map f bs) (0 ∷ [])) in
    let lg : length (map g p) ≡ 8 = length-map p g ∙ omega arith in
    let lz : length (zip2 bit_xor q (map g p)) ≡ 8 = length-zip2 bit_xor q (map g p) (lq ∙ sym lg) ∙ lq in
    let n : 8 ≡ suc (length (map f bs)) = omega arith in
    let front : bit_xor (entry 8 (f b)) W ≡ later 1 F = ap (λ k. bit_xor (entry k (f b)) W) n ∙ sym (front_moved (f b) (map f bs)) in
    let first : later 8 (register 0 p) ≡ bit_xor (later 1 F) G = split_register 8 1 f g s p h in
    ap (bit_xor (entry 8 (f b))) (zero-xor ws (zip2 bit_xor q (map g p)) (lw ∙ sym lz) ∙ ap (bit_xor W) (zero-xor q (map g p) (lq ∙ sym lg)))
    ∙ sym (xor_assoc (entry 8 (f b)) W (bit_xor Q G))
    ∙ ap (λ v. bit_xor v (bit_xor Q G)) front
    ∙ ap (bit_xor (later 1 F)) (xor_comm Q G)
    ∙ sym (xor_assoc (later 1 F) G Q)
    ∙ ap (λ v. bit_xor v Q) (sym first)
    ∙ sym (zero-append p q ∙ ap (λ k. bit_xor (later k (register 0 p)) Q) lq)

pub halved : (f g : ℕ → ℕ) → Splits 8 1 f g → (v : List ℕ) → IsBlock v →
    bit_xor (entry 8 (get_or (zip2 bit_xor (replicate 16 0) (map f (behind_zeros v))) 8 0))
    (register 0 (drop 8 (zip2 bit_xor (chunk 1 16 (zip2 bit_xor (replicate 16 0) (map f (behind_zeros v)) ++ replicate 16 0)) (zip2 bit_xor v (map g (behind_zeros v)))))) ≡ register 0 v
halved f g s [] h = absurd (omega (arith, h.0))
halved f g s (x0 ∷ []) h = absurd (omega (arith, h.0))
halved f g s (x0 ∷ x1 ∷ []) h = absurd (omega (arith, h.0))
halved f g s (x0 ∷ x1 ∷ x2 ∷ []) h = absurd (omega (arith, h.0))
halved f g s (x0 ∷ x1 ∷ x2 ∷ x3 ∷ []) h = absurd (omega (arith, h.0))
halved f g s (x0 ∷ x1 ∷ x2 ∷ x3 ∷ x4 ∷ []) h = absurd (omega (arith, h.0))
halved f g s (x0 ∷ x1 ∷ x2 ∷ x3 ∷ x4 ∷ x5 ∷ []) h = absurd (omega (arith, h.0))
halved f g s (x0 ∷ x1 ∷ x2 ∷ x3 ∷ x4 ∷ x5 ∷ x6 ∷ []) h = absurd (omega (arith, h.0))
halved f g s (x0 ∷ x1 ∷ x2 ∷ x3 ∷ x4 ∷ x5 ∷ x6 ∷ x7 ∷ q) h =
    let v = x0 ∷ x1 ∷ x2 ∷ x3 ∷ x4 ∷ x5 ∷ x6 ∷ x7 ∷ q in
    let first = map f (behind_zeros v) in
    let e : zip2 bit_xor (replicate 16 0) first ≡ first = zeros_xor 16 first refl in
    ap (λ u. bit_xor (entry 8 (get_or u 8 0)) (register 0 (drop 8 (zip2 bit_xor (chunk 1 16 (u ++ replicate 16 0)) (zip2 bit_xor v (map g (behind_zeros v))))))) e
    ∙ eight_split f g s x0 (x1 ∷ x2 ∷ x3 ∷ x4 ∷ x5 ∷ x6 ∷ x7 ∷ []) q refl (omega (arith, h.0)) (h.1.0, (h.1.1.0, (h.1.1.1.0, (h.1.1.1.1.0, (h.1.1.1.1.1.0, (h.1.1.1.1.1.1.0, (h.1.1.1.1.1.1.1.0, (h.1.1.1.1.1.1.1.1.0, tt))))))))
