use Rattle.std.proofs.Common.{replicate}
use Rattle.page_pool.specs.Places.{places_in}
use Rattle.page_pool.proofs.Spreads.{Spreads}
use Rattle.page_pool.proofs.pool.PagePool.zero.Given as goal

abbrev pub invariant-loop-s : goal.invariant-loop-s
invariant-loop-s l = Spreads l.initial.self l.self (places_in l.initial.walk) (places_in l.walk) l.len l.left (replicate l.left 0) (replicate l.len 0)

abbrev pub decreases-loop-s : goal.decreases-loop-s
decreases-loop-s l = l.left
