use Rattle.std.proofs.Common.{◌≡◌, ◌++◌, take, drop}
use Rattle.std.specs.Vec.{vec_capacity}
use Rattle.stack_steps.proofs.flight.take_out.Given as goal

abbrev pub invariant-loop-k : goal.invariant-loop-k
invariant-loop-k g l = record {
  items : l.into.items ≡ l.initial.into.items ++ take l.k (drop l.at l.list.items);
  capacity : vec_capacity l.into ≡ vec_capacity l.initial.into;
}
