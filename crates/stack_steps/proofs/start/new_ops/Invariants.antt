use Rattle.std.proofs.Common.{◌≡◌, ◌≤◌, take, map, length}
use Rattle.std.specs.Vec.{vec_capacity}
use Rattle.stack_laws.specs.View.{waiting}
use Rattle.stack_steps.specs.State.{state_of}
use Rattle.stack_steps.proofs.start.new_ops.Given as goal

abbrev pub invariant-loop-i : goal.invariant-loop-i
invariant-loop-i g l = record {
  items : l.ops.items ≡ map state_of (map waiting (take l.i (g.P.Requests.plan l.plan).requests));
  number : length l.ops.items ≡ l.i;
  room : l.n ≤ vec_capacity l.ops;
}
