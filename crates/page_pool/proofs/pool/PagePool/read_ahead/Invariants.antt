use Rattle.std.proofs.Common.{◌≡◌, ◌-◌, length, take}
use Rattle.page_pool.specs.Places.{places_in}
use Rattle.page_pool.proofs.Walks.{Copies, Gone}
use Rattle.page_pool.proofs.pool.PagePool.read_ahead.Given as goal

abbrev pub invariant-loop-s : goal.invariant-loop-s
invariant-loop-s l = record {
  copies : Copies l.self (places_in l.initial.walk) (places_in l.walk) (length l.into) l.done (take l.done l.into);
  gone : Gone l.initial.walk l.walk l.done;
  same : length l.into ≡ length l.initial.into;
}

abbrev pub decreases-loop-s : goal.decreases-loop-s
decreases-loop-s l = length l.into - l.done
