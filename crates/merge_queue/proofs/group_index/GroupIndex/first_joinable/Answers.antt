use Rattle.std.proofs.Common.{arith}
use Rattle.merge_queue.proofs.Firsts.{one-more}
use Rattle.merge_queue.proofs.group_index.GroupIndex.first_joinable.Goals as goal

pub loop-i-preserved : goal.loop-i-preserved
loop-i-preserved c =
    let e = c.count_followers.ensures.count in
    let z = c.if-count_followers-gt0.false in
    record { none = one-more c.args.lim.now c.args.self.now.groups c.loop-i.i c.loop-i.invariant.none (omega arith) }
