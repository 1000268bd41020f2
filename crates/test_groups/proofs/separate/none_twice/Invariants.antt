use Rattle.std.proofs.Common.{take}
use Rattle.page_pool.specs.Places.{NoneTwice, places_in}
use Rattle.test_groups.proofs.separate.none_twice.Given as goal

abbrev pub invariant-loop-i : goal.invariant-loop-i
invariant-loop-i l = NoneTwice (places_in (take l.i l.segs))
