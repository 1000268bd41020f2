use Rattle.std.proofs.Common.{arith}
use Rattle.merge_queue.proofs.Joins.{pairs-more}
use Rattle.merge_queue.proofs.group_index.GroupIndex.joins.Goals as goal

pub loop-i-preserved : goal.loop-i-preserved
loop-i-preserved c =
    let m = pairs-more c.args.lim.now c.args.self.now.groups c.loop-i.i in
    record { sum = omega (arith, m, c.count_followers.ensures.count, c.loop-i.invariant.sum); few = omega (arith, c.count_followers.ensures.few, c.loop-i.invariant.few) }
