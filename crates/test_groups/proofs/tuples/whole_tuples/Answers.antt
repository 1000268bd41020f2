use Rattle.std.proofs.Common.{arith}
use Rattle.test_groups.proofs.SegLists.{whole-more, no_seg}
use Rattle.test_groups.proofs.tuples.whole_tuples.Goals as goal

pub loop-s-preserved : goal.loop-s-preserved
loop-s-preserved c = whole-more c.args.segs.now c.loop-s.s-index no_seg (omega arith) c.loop-s.invariant c.if-s-ne0.false
