use Rattle.std.proofs.Common.{◌≡◌, ◌+◌, ◌-◌, ◌^◌, ◌≤◌, length, min}
use Rattle.big_run.specs.Counting.{all_bad}
use Rattle.big_run.proofs.counting.bad_blocks.Given as goal

abbrev pub invariant-loop-reply : goal.invariant-loop-reply
invariant-loop-reply l = record {
  counted : min (l.bad + all_bad l.rest) (2 ^ 64 - 1) ≡ min (all_bad l.replies) (2 ^ 64 - 1);
  bound : l.bad ≤ 2 ^ 64 - 1;
}

abbrev pub decreases-loop-reply : goal.decreases-loop-reply
decreases-loop-reply l = length l.rest
