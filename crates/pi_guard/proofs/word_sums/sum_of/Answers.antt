use Rattle.std.proofs.Common.{◌+◌, ◌<◌, ◌^◌, replicate, sym, ap, ◌∙◌, arith}
use Rattle.std.proofs.lemmas.Simd.{zip2_splat}
use lib.Lanes.{zip2, fold_l, sum_l}
use Rattle.pi_guard.specs.Words.{of_halves}
use Rattle.pi_guard.proofs.Numbers.{told_apart, summed, wrapped_add, wrapped_sub, shifted}
use Rattle.pi_guard.proofs.word_sums.sum_of.Goals as goal

pub returns : goal.returns
returns c = λ s k h.
    let upper = c.args.sums.upper in
    let long = k.long ∙ sym k.long_upper in
    let few : sum_l k.lower + sum_l upper < 2 ^ 32 = omega (arith, k.sum, h) in
    ap (λ w. fold_l wrapped_add 0 (zip2 wrapped_add (zip2 wrapped_sub w (zip2 shifted upper (replicate 8 16))) upper)) k.whole
    ∙ ap (λ w. fold_l wrapped_add 0 (zip2 wrapped_add (zip2 wrapped_sub (zip2 of_halves k.lower upper) w) upper)) (zip2_splat shifted upper 8 16 k.long_upper)
    ∙ ap (fold_l wrapped_add 0) (told_apart k.lower upper long few)
    ∙ summed k.lower upper 0 long (omega (arith, few))
    ∙ omega (arith, k.sum)
