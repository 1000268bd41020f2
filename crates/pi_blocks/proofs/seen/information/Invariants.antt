use Rattle.std.proofs.Common.{ℕ, ◌≡◌, ◌+◌, ◌-◌, ◌<◌, ◌≤◌}
use Rattle.pi_blocks.specs.Seen.{Informs, place_of}
use Rattle.pi_blocks.proofs.seen.information.Given as goal

abbrev pub invariant-loop-at : goal.invariant-loop-at
invariant-loop-at l = record {
  k : ℕ;
  near : l.at ≤ 508;
  there : l.at ≡ place_of l.bytes k;
  none : (j : ℕ) → j < k → ¬ Informs l.bytes j;
}

abbrev pub decreases-loop-at : goal.decreases-loop-at
decreases-loop-at l = l.end + 1 - l.at
