use Rattle.std.proofs.Common.{◌+◌, ◌<◌, ◌^◌, replicate, refl, ap, arith}
use Rattle.pi_guard.specs.Words.{little_sum}
use Rattle.pi_guard.proofs.Sums.{little_le, little_split}
use Rattle.pi_guard.proofs.word_sums.sum_of_chunk.Goals as goal

pub loop-block-init : goal.loop-block-init
loop-block-init c = (0, record { lower = replicate 8 0; long = refl; long_upper = refl; whole = refl; sum = refl }, omega arith)

pub loop-block-preserved : goal.loop-block-preserved
loop-block-preserved c =
    let s = c.loop-block.invariant.0 in
    let most = little_le c.args.part.now c.type_inv.part in
    let block = ap little_sum c.in-Some.ensures.cases.0 in
    let more = ap little_sum c.in-Some.ensures.cases.1 in
    let cut = little_split 32 16 c.loop-block.rest.now refl in
    let few : s + little_sum c.in-Some.block.now < 2 ^ 32 = omega (arith, most, block, cut, c.loop-block.invariant.2, c.requires) in
    (s + little_sum c.in-Some.block.now, c.sums_with-sums.ensures s c.loop-block.invariant.1 few, omega (arith, block, more, cut, c.loop-block.invariant.2))

pub overflow_add-result : goal.overflow_add-result
overflow_add-result c =
    let s = c.loop-block.invariant.0 in
    let most = little_le c.args.part.now c.type_inv.part in
    let few : s < 2 ^ 32 = omega (arith, most, c.loop-block.invariant.2, c.requires) in
    let sum = c.sum_of.ensures s c.loop-block.invariant.1 few in
    record { fits = omega (arith, most, sum, c.loop-block.invariant.2, c.requires, c.sum_by_words.ensures) }

pub returns : goal.returns
returns c =
    let s = c.loop-block.invariant.0 in
    let most = little_le c.args.part.now c.type_inv.part in
    let few : s < 2 ^ 32 = omega (arith, most, c.loop-block.invariant.2, c.requires) in
    let sum = c.sum_of.ensures s c.loop-block.invariant.1 few in
    omega (arith, sum, c.loop-block.invariant.2, c.sum_by_words.ensures)
