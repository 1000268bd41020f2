use Rattle.std.proofs.Common.{arith}
use Rattle.volume_table.proofs.Sums.{one_fits}
use Rattle.volume_table.proofs.judge.first_fault.Goals as goal

pub overflow_add-start : goal.overflow_add-start
overflow_add-start c =
    let h = one_fits c.args.entries.now c.loop-i.i _ _ c.index-entries-i.result c.requires.count c.requires.ranges c.loop-i-test.true c.index-entries-i.is c.loop-i.invariant.sum c.len-start.ensures in
    omega (arith, h)
