use Rattle.std.proofs.Common.{take}
use Rattle.page_pool.specs.Places.{Apart, places_in}
use Rattle.test_groups.proofs.separate.are_apart.Given as goal

abbrev pub invariant-loop-s : goal.invariant-loop-s
invariant-loop-s l = Apart (places_in l.these) (places_in (take l.s-index l.those))
