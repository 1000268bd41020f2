use Rattle.std.proofs.Common.{◌≡◌, ◌+◌, ◌*◌, ◌≤◌, length}
use Rattle.pi_guard.specs.Words.{little_sum}
use Rattle.pi_guard.proofs.word_sums.sum_by_words.Given as goal

abbrev pub invariant-loop-pair : goal.invariant-loop-pair
invariant-loop-pair l = record {
  all : l.sum + little_sum l.rest ≡ little_sum l.part;
  bound : l.sum + 65535 * length l.rest ≤ 65535 * length l.part;
}

abbrev pub decreases-loop-pair : goal.decreases-loop-pair
decreases-loop-pair l = length l.rest
