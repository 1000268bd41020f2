use Rattle.std.proofs.Common.{◌≡◌, true, false, arith}
use Rattle.test_groups.proofs.SegLists.{apart-more, no_seg}
use Rattle.test_groups.proofs.separate.is_apart.Goals as goal

pub loop-t-preserved : goal.loop-t-preserved
loop-t-preserved c = apart-more c.args.before.now c.loop-t.t-index no_seg c.args.s (omega arith) c.loop-t.invariant (λ o. (let x : false ≡ true = c.if-shares.ensures.exact.1 o in cc))
