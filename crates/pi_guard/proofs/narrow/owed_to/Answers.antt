use Rattle.std.proofs.Common.{◌++◌, ap, ◌∙◌, arith, length-append}
use Rattle.std.specs.Prelude.{bit_xor}
use Rattle.std.specs.List.{range_with_len}
use Rattle.std.proofs.lemmas.Simd.{pick_l-range_with_len}
use lib.Lanes.{zip2, chunk, pick_l}
use Rattle.pi_guard.proofs.narrow.owed_to.Goals as goal

pub returns : goal.returns
returns c =
    let early = c.args.a ++ c.args.b in
    let late = c.args.b ++ c.args.c in
    let near = pick_l-range_with_len 0 late 12 16 (omega (arith, length-append c.args.b c.args.c, c.fits-b.0, c.fits-c.0)) in
    let middle = pick_l-range_with_len 0 early 8 16 (omega (arith, length-append c.args.a c.args.b, c.fits-a.0, c.fits-b.0)) in
    let far = pick_l-range_with_len 0 early 1 16 (omega (arith, length-append c.args.a c.args.b, c.fits-a.0, c.fits-b.0)) in
    ap (λ v. zip2 bit_xor v (zip2 bit_xor (pick_l 0 early (range_with_len 8 16)) (pick_l 0 early (range_with_len 1 16)))) near
    ∙ ap (λ v. zip2 bit_xor (chunk 12 16 late) (zip2 bit_xor v (pick_l 0 early (range_with_len 1 16)))) middle
    ∙ ap (λ v. zip2 bit_xor (chunk 12 16 late) (zip2 bit_xor (chunk 8 16 early) v)) far
