use Rattle.std.proofs.Common.{◌-◌, length}
use Rattle.page_pool.specs.Places.{places_in}
use Rattle.page_pool.proofs.Spreads.{Spreads}
use Rattle.page_pool.proofs.Walks.{Gone}
use Rattle.page_pool.proofs.pool.PagePool.write_ahead.Given as goal

abbrev pub invariant-loop-s : goal.invariant-loop-s
invariant-loop-s l = record {
  spreads : Spreads l.initial.self l.self (places_in l.initial.walk) (places_in l.walk) (length l.bytes) (length l.rest) l.rest l.bytes;
  gone : Gone l.initial.walk l.walk (length l.bytes - length l.rest);
}

abbrev pub decreases-loop-s : goal.decreases-loop-s
decreases-loop-s l = length l.rest
