use Rattle.std.proofs.Common.{◌≡◌, ◌≤◌, take, drop}
use Rattle.stack_laws.specs.Blocks.{settled_count}
use Rattle.stack_steps.proofs.state.count_settled.Given as goal

abbrev pub invariant-loop-k : goal.invariant-loop-k
invariant-loop-k l = record {
  count : l.count ≡ settled_count (take l.k (drop l.from l.fates));
  few : l.count ≤ l.k;
}
