use Rattle.std.proofs.Common.{◌++◌, ℕ, replicate, get_or, ap, ◌∙◌, arith, length-append}
use Rattle.std.specs.Prelude.{bit_xor}
use Rattle.std.proofs.lemmas.Simd.{pick_l-range_with_len}
use lib.Lanes.{zip2}
use Rattle.pi_guard.specs.Register.{register}
use Rattle.pi_guard.specs.AfterZeros.{entry}
use Rattle.pi_guard.proofs.Closing.{ends}
use Rattle.pi_guard.proofs.halves.register_of_pair.Goals as goal

pub returns : goal.returns
returns c =
    let x = c.args.upper in
    let y = c.args.lower in
    let both = x ++ replicate {A = ℕ} 16 0 in
    let m = pick_l-range_with_len 0 both 1 16 (omega (arith, length-append x (replicate {A = ℕ} 16 0), c.fits-upper.0)) in
    let first = entry 16 (get_or x 0 0) in
    ap (λ w. bit_xor w c.register_of_vector.result) c.table_entry.ensures
    ∙ ap (bit_xor first) c.register_of_vector.ensures
    ∙ ap (λ v. bit_xor first (register 0 (zip2 bit_xor v y))) m
    ∙ ends x y c.fits-upper.0 c.fits-lower.0
