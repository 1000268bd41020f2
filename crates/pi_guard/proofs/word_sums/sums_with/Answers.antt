use Rattle.std.proofs.Common.{◌+◌, length, sym, ap, ◌∙◌, arith}
use Rattle.std.proofs.lemmas.Simd.{length-zip2}
use lib.Lanes.{zip2, sum_l, number_l}
use Rattle.pi_guard.specs.Words.{of_halves}
use Rattle.pi_guard.proofs.Sums.{numbers, eight_numbers}
use Rattle.pi_guard.proofs.Numbers.{added, plus_lower, plus_upper, wrapped_add}
use Rattle.pi_guard.proofs.word_sums.sums_with.Goals as goal

pub returns : goal.returns
returns c = λ s k h.
    let ns = numbers 8 (number_l 256 c.args.bytes) in
    let e = eight_numbers c.args.bytes c.fits-bytes.0 c.fits-bytes.1 in
    let r = added k.lower c.args.sums.upper ns k.long k.long_upper (omega (arith, e, k.sum)) in
    record {
      lower = zip2 plus_lower k.lower ns;
      long = length-zip2 plus_lower k.lower ns k.long ∙ k.long;
      long_upper = ap length r.upper_ones ∙ length-zip2 plus_upper c.args.sums.upper ns k.long_upper ∙ k.long_upper;
      whole = ap (λ w. zip2 wrapped_add w ns) k.whole ∙ r.whole ∙ ap (zip2 of_halves (zip2 plus_lower k.lower ns)) (sym r.upper_ones);
      sum = ap (λ w. sum_l (zip2 plus_lower k.lower ns) + sum_l w) r.upper_ones ∙ omega (arith, r.sum, e, k.sum);
    }
