use Rattle.std.proofs.Common.{◌≡◌, ◌≤◌, [], length, map, replicate}
use Rattle.std.specs.List.{All}
use Rattle.std.specs.Vec.{vec_capacity}
use Rattle.stack_steps.specs.Shows.{groups_of, HasRoom}
use Rattle.stack_steps.proofs.start.new_queues.Given as goal

abbrev pub invariant-loop-i : goal.invariant-loop-i
invariant-loop-i l = record {
  groups : map groups_of l.queues.items ≡ replicate l.i [];
  rooms : All (HasRoom l.room) l.queues.items;
  number : length l.queues.items ≡ l.i;
  space : l.n ≤ vec_capacity l.queues;
}
