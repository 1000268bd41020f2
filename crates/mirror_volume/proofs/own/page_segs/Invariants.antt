use Rattle.std.proofs.Common.{◌≡◌, ◌+◌, ◌-◌, ◌++◌}
use Rattle.page_pool.specs.Places.{total}
use Rattle.mirror_volume.specs.Inner.{page_segs, pages_for}
use Rattle.mirror_volume.proofs.own.page_segs.Given as goal

abbrev pub invariant-loop-page : goal.invariant-loop-page
invariant-loop-page l = (l.segs.items ++ page_segs l.page (l.page-end - l.page) l.left ≡ page_segs l.first (pages_for l.bytes) l.bytes) × (total l.segs.items + l.left ≡ l.bytes)
