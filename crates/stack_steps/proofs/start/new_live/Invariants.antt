use Rattle.std.proofs.Common.{◌≡◌, ◌≤◌, length}
use Rattle.std.specs.Vec.{vec_capacity}
use Rattle.merge_queue.specs.Groups.{numbers}
use Rattle.stack_steps.proofs.start.new_live.Given as goal

abbrev pub invariant-loop-i : goal.invariant-loop-i
invariant-loop-i l = record {
  items : l.live.items ≡ numbers 0 l.i;
  number : length l.live.items ≡ l.i;
  room : l.n ≤ vec_capacity l.live;
}
