use Rattle.std.proofs.Common.{refl, arith}
use Rattle.test_groups.proofs.SegLists.{once-more, no_seg}
use Rattle.test_groups.proofs.separate.none_twice.Goals as goal

pub loop-i-preserved : goal.loop-i-preserved
loop-i-preserved c = once-more c.args.segs.now c.loop-i.i no_seg (omega arith) c.loop-i.invariant (c.if-not-is_apart.ensures refl)
