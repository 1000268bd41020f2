use Rattle.std.proofs.Common.{◌++◌, ap, ◌∙◌, arith, length-append}
use Rattle.std.specs.Prelude.{bit_xor}
use Rattle.std.specs.List.{range_with_len}
use Rattle.std.proofs.lemmas.Simd.{pick_l-range_with_len}
use lib.Lanes.{zip2, chunk, pick_l}
use Rattle.pi_guard.proofs.wide.owed_to.Goals as goal

pub returns : goal.returns
returns c =
    let early = c.args.a ++ c.args.b in
    let late = c.args.d ++ c.args.e in
    let near = pick_l-range_with_len 0 late 8 16 (omega (arith, length-append c.args.d c.args.e, c.fits-d.0, c.fits-e.0)) in
    let far = pick_l-range_with_len 0 early 2 16 (omega (arith, length-append c.args.a c.args.b, c.fits-a.0, c.fits-b.0)) in
    ap (λ v. zip2 bit_xor v (zip2 bit_xor c.args.b (pick_l 0 early (range_with_len 2 16)))) near
    ∙ ap (λ v. zip2 bit_xor (chunk 8 16 late) (zip2 bit_xor c.args.b v)) far
