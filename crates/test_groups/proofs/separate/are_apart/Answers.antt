use Rattle.std.proofs.Common.{refl, arith}
use Rattle.page_pool.specs.Places.{places_in}
use Rattle.test_groups.proofs.SegLists.{apart-all-more, no_seg}
use Rattle.test_groups.proofs.separate.are_apart.Goals as goal

pub loop-s-preserved : goal.loop-s-preserved
loop-s-preserved c = apart-all-more (places_in c.args.these.now) c.args.those.now c.loop-s.s-index no_seg (omega arith) c.loop-s.invariant (c.if-not-is_apart.ensures refl)
