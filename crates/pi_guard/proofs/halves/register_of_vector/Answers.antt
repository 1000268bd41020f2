use Rattle.std.proofs.Common.{◌++◌, ◌≡◌, ℕ, replicate, map, get_or, drop, ap, ◌∙◌, arith, length-append}
use Rattle.std.specs.Prelude.{bit_xor}
use Rattle.std.proofs.lemmas.Simd.{pick_l-range_with_len}
use lib.Lanes.{zip2, chunk}
use Rattle.pi_guard.specs.Register.{register}
use Rattle.pi_guard.specs.AfterZeros.{entry}
use Rattle.pi_guard.specs.Windows.{by_halves}
use Rattle.pi_guard.specs.declared.halves.TheConstants.{FROM_8_FIRST_HIGH, FROM_8_FIRST_LOW, FROM_8_SECOND_HIGH, FROM_8_SECOND_LOW}
use Rattle.pi_guard.proofs.Nibbles.{by_8}
use Rattle.pi_guard.proofs.Halving.{halved, behind_zeros}
use Rattle.pi_guard.proofs.halves.register_of_vector.Goals as goal

pub returns : goal.returns
returns c =
    let v = c.args.v in
    let z = replicate {A = ℕ} 16 0 in
    let upper = c.folded_in-upper.result in
    let lower = c.folded_in-lower.result in
    let f = by_halves FROM_8_FIRST_HIGH FROM_8_FIRST_LOW in
    let g = by_halves FROM_8_SECOND_HIGH FROM_8_SECOND_LOW in
    let U = zip2 bit_xor z (map f (behind_zeros v)) in
    let first = pick_l-range_with_len 0 (z ++ v) 8 16 (omega (arith, length-append z v, c.fits-v.0)) in
    let up : upper ≡ U = c.folded_in-upper.ensures ∙ ap (λ w. zip2 bit_xor z (map f w)) first in
    let low : lower ≡ zip2 bit_xor v (map g (behind_zeros v)) = c.folded_in-lower.ensures ∙ ap (λ w. zip2 bit_xor v (map g w)) first in
    let moved = pick_l-range_with_len 0 (upper ++ z) 1 16 (omega (arith, length-append upper z)) in
    ap (λ w. bit_xor w c.register_of_last_eight.result) c.table_entry.ensures
    ∙ ap (bit_xor (entry 8 (get_or upper 8 0))) c.register_of_last_eight.ensures
    ∙ ap (λ w. bit_xor (entry 8 (get_or upper 8 0)) (register 0 (drop 8 (zip2 bit_xor w lower)))) moved
    ∙ ap (λ u. bit_xor (entry 8 (get_or u 8 0)) (register 0 (drop 8 (zip2 bit_xor (chunk 1 16 (u ++ z)) lower)))) up
    ∙ ap (λ l. bit_xor (entry 8 (get_or U 8 0)) (register 0 (drop 8 (zip2 bit_xor (chunk 1 16 (U ++ z)) l)))) low
    ∙ halved f g by_8 v c.fits-v
