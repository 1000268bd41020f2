use Rattle.std.proofs.Common.{take}
use Rattle.page_pool.specs.Pages.{AllLieIn}
use Rattle.test_groups.proofs.bytes.all_lie.Given as goal

abbrev pub invariant-loop-s : goal.invariant-loop-s
invariant-loop-s l = AllLieIn l.pool (take l.s-index l.segs)
