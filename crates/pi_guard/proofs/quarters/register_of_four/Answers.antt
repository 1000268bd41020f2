use Rattle.std.proofs.Common.{◌≡◌, length, ◌∙◌}
use Rattle.std.specs.Prelude.{bit_xor}
use lib.Lanes.{zip2}
use Rattle.pi_guard.specs.Broad.{by_sixteens}
use Rattle.pi_guard.specs.declared.quarters.TheConstants.{FROM_96_FIRST_HIGH, FROM_96_FIRST_LOW, FROM_96_SECOND_HIGH, FROM_96_SECOND_LOW, FROM_64_FIRST_HIGH, FROM_64_FIRST_LOW, FROM_64_SECOND_HIGH, FROM_64_SECOND_LOW, FROM_32_FIRST_HIGH, FROM_32_FIRST_LOW, FROM_32_SECOND_HIGH, FROM_32_SECOND_LOW, FROM_0_FIRST_HIGH, FROM_0_FIRST_LOW, FROM_0_SECOND_HIGH, FROM_0_SECOND_LOW}
use Rattle.pi_guard.proofs.QuarterEnds.{sixteens_leave, length-sixteens, length-sums, pair_of_halves, four_leave}
use Rattle.pi_guard.proofs.Sixteens.{by_112_first, by_96_last, by_80_first, by_64_last, by_48_first, by_32_last, by_16_first, by_0_last}
use Rattle.pi_guard.proofs.quarters.register_of_four.Goals as goal

pub returns : goal.returns
returns c =
    let x = c.args in
    let a1 = by_sixteens FROM_96_FIRST_HIGH FROM_96_FIRST_LOW x.a in
    let b1 = by_sixteens FROM_64_FIRST_HIGH FROM_64_FIRST_LOW x.b in
    let c1 = by_sixteens FROM_32_FIRST_HIGH FROM_32_FIRST_LOW x.c in
    let d1 = by_sixteens FROM_0_FIRST_HIGH FROM_0_FIRST_LOW x.d in
    let a2 = by_sixteens FROM_96_SECOND_HIGH FROM_96_SECOND_LOW x.a in
    let b2 = by_sixteens FROM_64_SECOND_HIGH FROM_64_SECOND_LOW x.b in
    let c2 = by_sixteens FROM_32_SECOND_HIGH FROM_32_SECOND_LOW x.c in
    let d2 = by_sixteens FROM_0_SECOND_HIGH FROM_0_SECOND_LOW x.d in
    let la1 = length-sixteens FROM_96_FIRST_HIGH FROM_96_FIRST_LOW x.a c.fits-a.0 in
    let lb1 = length-sixteens FROM_64_FIRST_HIGH FROM_64_FIRST_LOW x.b c.fits-b.0 in
    let lc1 = length-sixteens FROM_32_FIRST_HIGH FROM_32_FIRST_LOW x.c c.fits-c.0 in
    let ld1 = length-sixteens FROM_0_FIRST_HIGH FROM_0_FIRST_LOW x.d c.fits-d.0 in
    let la2 = length-sixteens FROM_96_SECOND_HIGH FROM_96_SECOND_LOW x.a c.fits-a.0 in
    let lb2 = length-sixteens FROM_64_SECOND_HIGH FROM_64_SECOND_LOW x.b c.fits-b.0 in
    let lc2 = length-sixteens FROM_32_SECOND_HIGH FROM_32_SECOND_LOW x.c c.fits-c.0 in
    let ld2 = length-sixteens FROM_0_SECOND_HIGH FROM_0_SECOND_LOW x.d c.fits-d.0 in
    let ea = sixteens_leave 96 FROM_96_FIRST_HIGH FROM_96_FIRST_LOW FROM_96_SECOND_HIGH FROM_96_SECOND_LOW by_112_first by_96_last x.a c.fits-a in
    let eb = sixteens_leave 64 FROM_64_FIRST_HIGH FROM_64_FIRST_LOW FROM_64_SECOND_HIGH FROM_64_SECOND_LOW by_80_first by_64_last x.b c.fits-b in
    let ec = sixteens_leave 32 FROM_32_FIRST_HIGH FROM_32_FIRST_LOW FROM_32_SECOND_HIGH FROM_32_SECOND_LOW by_48_first by_32_last x.c c.fits-c in
    let ed = sixteens_leave 0 FROM_0_FIRST_HIGH FROM_0_FIRST_LOW FROM_0_SECOND_HIGH FROM_0_SECOND_LOW by_16_first by_0_last x.d c.fits-d in
    let first = zip2 bit_xor (zip2 bit_xor a1 b1) (zip2 bit_xor c1 d1) in
    let second = zip2 bit_xor (zip2 bit_xor a2 b2) (zip2 bit_xor c2 d2) in
    let long_first : length first ≡ 32 = length-sums a1 b1 c1 d1 la1 lb1 lc1 ld1 in
    let long_second : length second ≡ 32 = length-sums a2 b2 c2 d2 la2 lb2 lc2 ld2 in
    c.register_of_pair.ensures
    ∙ rw (c.halves_added.ensures, c.halves_added-2.ensures, c.looked_up-a1.ensures, c.looked_up-b1.ensures, c.looked_up-c1.ensures, c.looked_up-d1.ensures, c.looked_up-a2.ensures, c.looked_up-b2.ensures, c.looked_up-c2.ensures, c.looked_up-d2.ensures)
    (pair_of_halves first second long_first long_second
    ∙ four_leave x.a x.b x.c x.d a1 b1 c1 d1 a2 b2 c2 d2 c.fits-b.0 c.fits-c.0 c.fits-d.0 la1 lb1 lc1 ld1 la2 lb2 lc2 ld2 ea eb ec ed)
