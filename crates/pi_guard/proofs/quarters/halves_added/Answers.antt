use Rattle.std.proofs.Common.{◌≡◌, ◌++◌, ap, ◌∙◌, arith}
use Rattle.std.specs.Prelude.{bit_xor}
use Rattle.std.specs.List.{range_with_len}
use Rattle.std.proofs.lemmas.Simd.{pick_l_left, pick_l-range_with_len}
use lib.Lanes.{zip2, chunk, pick_l}
use Rattle.pi_guard.proofs.quarters.halves_added.Goals as goal

pub returns : goal.returns
returns c =
    let v = c.args.v in
    let first : pick_l 0 (v ++ v) (range_with_len 0 16) ≡ chunk 0 16 v =
    pick_l_left 0 v v 32 (range_with_len 0 16) c.fits-v.0 tt ∙ pick_l-range_with_len 0 v 0 16 (omega (arith, c.fits-v.0)) in
    let second : pick_l 0 (v ++ v) (range_with_len 16 16) ≡ chunk 16 16 v =
    pick_l_left 0 v v 32 (range_with_len 16 16) c.fits-v.0 tt ∙ pick_l-range_with_len 0 v 16 16 (omega (arith, c.fits-v.0)) in
    ap (λ w. zip2 bit_xor w (pick_l 0 (v ++ v) (range_with_len 16 16))) first ∙ ap (zip2 bit_xor (chunk 0 16 v)) second
