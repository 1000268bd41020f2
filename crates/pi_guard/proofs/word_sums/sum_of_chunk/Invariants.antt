use Rattle.std.proofs.Common.{◌≡◌, ◌+◌, ℕ, length}
use Rattle.pi_guard.specs.Words.{SumTo, little_sum}
use Rattle.pi_guard.proofs.word_sums.sum_of_chunk.Given as goal

abbrev pub invariant-loop-block : goal.invariant-loop-block
invariant-loop-block l = (s : ℕ) × SumTo s l.sums × (s + little_sum l.rest ≡ little_sum l.part)

abbrev pub decreases-loop-block : goal.decreases-loop-block
decreases-loop-block l = length l.rest
