use Rattle.std.proofs.Common.{ℕ, ◌+◌, ◌-◌, ◌<◌, ◌≤◌}
use Rattle.volume_table.specs.Places.{place_in, volume_len}
use Rattle.stack_core.proofs.sheet.devices_of.Given as goal

abbrev pub invariant-loop-k : goal.invariant-loop-k
invariant-loop-k l = record {
  within : l.k ≤ l.io.count;
  all : (j : ℕ) → j < l.k → (place_in l.table.entries (l.io.first + j)).0 < l.most;
  few : l.most ≤ 8;
  least : (n : ℕ) → ((v : ℕ) → v < volume_len l.table.entries → (place_in l.table.entries v).0 < n) → l.most ≤ n;
  tight : (n : ℕ) → ((j : ℕ) → j < l.io.count → (place_in l.table.entries (l.io.first + j)).0 < n) → l.most ≤ n;
}

abbrev pub decreases-loop-k : goal.decreases-loop-k
decreases-loop-k l = l.io.count - l.k
