use Rattle.std.proofs.Common.{refl, arith}
use Rattle.test_groups.proofs.SegLists.{lie-at, lie-more, no_seg}
use Rattle.test_groups.proofs.bytes.all_lie.Goals as goal

pub loop-s-preserved : goal.loop-s-preserved
loop-s-preserved c = lie-more c.args.pool.now c.args.segs.now c.loop-s.s-index no_seg (omega arith) c.loop-s.invariant (c.if-not-lies.ensures.yes refl)

pub returns-then-not-lies-clause-no : goal.returns-then-not-lies-clause-no
returns-then-not-lies-clause-no c = λ a. c.if-not-lies.ensures.no (lie-at c.args.pool.now c.args.segs.now c.loop-s.s-index no_seg (omega arith) a)
