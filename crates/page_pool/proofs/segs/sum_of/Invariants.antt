use Rattle.std.proofs.Common.{◌≡◌, ◌+◌, drop}
use Rattle.page_pool.specs.Places.{total}
use Rattle.page_pool.proofs.segs.sum_of.Given as goal

abbrev pub invariant-loop-s : goal.invariant-loop-s
invariant-loop-s l = l.sum + total (drop l.s-index l.segs) ≡ total l.segs
