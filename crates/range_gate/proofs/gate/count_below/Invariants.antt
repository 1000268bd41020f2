use Rattle.std.proofs.Common.{ℕ, ◌<◌, ◌≤◌, ◌-◌, length, slice_index}
use Rattle.range_gate.proofs.gate.count_below.Given as goal

abbrev pub invariant-loop-n : goal.invariant-loop-n
invariant-loop-n l = record {
  within : l.n ≤ length l.live;
  most : l.n ≤ 32;
  below : (a : ℕ) → length l.live - l.n ≤ a → a < length l.live → slice_index l.live a < l.i;
}

abbrev pub decreases-loop-n : goal.decreases-loop-n
decreases-loop-n l = length l.live - l.n
