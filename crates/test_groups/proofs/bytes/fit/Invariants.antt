use Rattle.std.proofs.Common.{◌≡◌, ◌+◌, drop}
use Rattle.page_pool.specs.Places.{total}
use Rattle.test_groups.proofs.bytes.fit.Given as goal

abbrev pub invariant-loop-s : goal.invariant-loop-s
invariant-loop-s l = total (drop l.s-index l.segs) + l.most ≡ total l.segs + l.left
