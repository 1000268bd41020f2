use Rattle.std.proofs.Common.{◌≡◌, ◌+◌, ◌*◌, ◌<◌, ◌^◌, length, take, drop, min, sym, ap, ◌∙◌, arith}
use Rattle.std.proofs.lemmas.List.{take_min, drop_min}
use Rattle.std.proofs.lemmas.Bool.{eqb-true}
use Rattle.pi_guard.specs.Words.{little_sum, folded, weight_of}
use Rattle.pi_guard.proofs.Sums.{weight_lt, folded_lt, chunk_taken, nothing_left}
use Rattle.pi_guard.proofs.word_sums.sum_after.Goals as goal

pub overflow_add-from : goal.overflow_add-from
overflow_add-from c =
    let o = c.args.half_open in
    let total = c.from-in-loop-rest.result in
    let below : total < 2 ^ 32 = omega (arith, c.from-in-loop-rest.ensures, c.sum_of_chunk.type_inv) in
    let high = weight_lt o total below in
    let w : c.weight-weight.result * total ≡ weight_of o * total = ap (λ v. v * total) c.weight-weight.ensures in
    record { fits = omega (arith, high, w, c.from.ensures, c.loop-rest.invariant.small) }

pub loop-rest-preserved : goal.loop-rest-preserved
loop-rest-preserved c =
    let o = c.args.half_open in
    let xs = c.loop-rest.rest.now in
    let total = c.from-in-loop-rest.result in
    let at : c.min.result ≡ min 65536 (length xs) = omega (arith, c.min.ensures) in
    let front : c.split_at.result.0.now ≡ take 65536 xs = c.split_at.ensures.front ∙ ap (λ n. take n xs) at ∙ take_min 65536 xs in
    let back : c.split_at.result.1.now ≡ drop 65536 xs = c.split_at.ensures.back ∙ ap (λ n. drop n xs) at ∙ drop_min 65536 xs in
    let sum : total ≡ little_sum (take 65536 xs) = c.from-in-loop-rest.ensures ∙ c.sum_of_chunk.ensures ∙ ap little_sum front in
    let next : c.fold-sum.result ≡ folded (c.loop-rest.sum + weight_of o * total) =
    c.fold-sum.ensures ∙ ap (λ v. folded (v + c.weight-weight.result * total)) c.from.ensures ∙ ap (λ v. folded (c.loop-rest.sum + v * total)) c.weight-weight.ensures in
    let bound = folded_lt (c.loop-rest.sum + weight_of o * total) in
    record {
      small = omega (arith, next, bound);
      same =
          ap (λ v. folded (v + weight_of o * little_sum c.split_at.result.1.now)) next
          ∙ ap (λ v. folded (folded (c.loop-rest.sum + weight_of o * total) + weight_of o * little_sum v)) back
          ∙ chunk_taken o c.loop-rest.sum total xs sum
          ∙ c.loop-rest.invariant.same;
    }

pub returns : goal.returns
returns c =
    let xs = c.loop-rest.rest.now in
    let none : length xs ≡ 0 = eqb-true (length xs) 0 (sym c.loop-rest-test.ensures) in
    nothing_left c.args.half_open c.loop-rest.sum xs c.loop-rest.invariant.small none ∙ c.loop-rest.invariant.same
