use Rattle.std.proofs.Common.{◌≡◌, ◌*◌, take}
use Rattle.page_pool.specs.Cells.{flat}
use Rattle.flip_sweep.proofs.same.are_same_pages.Given as goal

abbrev pub invariant-loop-page : goal.invariant-loop-page
invariant-loop-page l = take (4096 * l.page) (flat l.one) ≡ take (4096 * l.page) (flat l.other)
