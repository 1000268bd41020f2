use Rattle.std.proofs.Common.{◌≡◌, ◌+◌, ◌*◌, ◌<◌, length}
use Rattle.pi_guard.specs.Words.{little_sum, folded, weight_of}
use Rattle.pi_guard.proofs.word_sums.sum_after.Given as goal

abbrev pub invariant-loop-rest : goal.invariant-loop-rest
invariant-loop-rest l = record {
  small : l.sum < 65536;
  same : folded (l.sum + weight_of l.half_open * little_sum l.rest) ≡ folded (l.start + weight_of l.half_open * little_sum l.part);
}

abbrev pub decreases-loop-rest : goal.decreases-loop-rest
decreases-loop-rest l = length l.rest
