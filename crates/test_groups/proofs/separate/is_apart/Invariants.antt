use Rattle.std.proofs.Common.{take}
use Rattle.page_pool.specs.Places.{Apart, places_in, places_of}
use Rattle.test_groups.proofs.separate.is_apart.Given as goal

abbrev pub invariant-loop-t : goal.invariant-loop-t
invariant-loop-t l = Apart (places_in (take l.t-index l.before)) (places_of l.s)
