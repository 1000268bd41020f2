use Rattle.std.proofs.Common.{◌≡◌, ◌++◌}
use Rattle.std.specs.Vec.{vec_capacity}
use Rattle.merge_queue.specs.Chains.{after, bios_at, path}
use Rattle.merge_queue.proofs.chains.copy_out.Given as goal

abbrev pub invariant-loop-k : goal.invariant-loop-k
invariant-loop-k l = record {
  place : l.place ≡ after l.next l.first l.k;
  into : l.into.items ≡ l.initial.into.items ++ bios_at l.bios (path l.next l.first l.k);
  capacity : vec_capacity l.into ≡ vec_capacity l.initial.into;
}
