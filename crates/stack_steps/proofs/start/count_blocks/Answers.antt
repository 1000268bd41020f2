use Rattle.std.proofs.Common.{arith, ◌+◌}
use Rattle.stack_steps.proofs.Begin.{blocks-more, blocks-front}
use Rattle.stack_steps.proofs.start.count_blocks.Goals as goal

pub overflow_add-count : goal.overflow_add-count
overflow_add-count g c =
    let f = (g.met.P.Requests.fine c.args.plan.now).few_blocks in
    let m = blocks-more (g.P.Requests.plan c.args.plan.now).requests c.loop-i.i (omega (arith, c.ops-i-end.ensures)) in
    let b = blocks-front (g.P.Requests.plan c.args.plan.now).requests (c.loop-i.i + 1) in
    omega (arith, f, m, b, c.loop-i.invariant, c.io.ensures.count)

pub loop-i-preserved : goal.loop-i-preserved
loop-i-preserved g c =
    let m = blocks-more (g.P.Requests.plan c.args.plan.now).requests c.loop-i.i (omega (arith, c.ops-i-end.ensures)) in
    omega (arith, m, c.loop-i.invariant, c.io.ensures.count)
