use Rattle.std.proofs.Common.{◌≡◌, ◌≤◌}
use Rattle.std.specs.Vec.{vec_capacity}
use Rattle.merge_queue.specs.Groups.{numbers}
use Rattle.merge_queue.proofs.chains.one_chain.Given as goal

abbrev pub invariant-loop-place : goal.invariant-loop-place
invariant-loop-place l = record {
  items : l.next.items ≡ numbers 1 l.place;
  room : l.places ≤ vec_capacity l.next;
}
