use Rattle.page_pool.specs.Places.{places_in}
use Rattle.page_pool.proofs.Walks.{Gone}
use Rattle.integrity_payload.proofs.Fills.{Hashes}
use Rattle.std.proofs.Common.{◌-◌}
use Rattle.integrity_payload.proofs.blocks.next_guard.Given as goal

abbrev pub invariant-loop-part : goal.invariant-loop-part
invariant-loop-part l = record {
  hashes : Hashes l.pool l.fn.kind (places_in l.initial.walk) (places_in l.walk) l.size l.left l.run;
  gone : Gone l.initial.walk l.walk (l.size - l.left);
}

abbrev pub decreases-loop-part : goal.decreases-loop-part
decreases-loop-part l = l.left
