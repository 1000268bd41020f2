use Rattle.std.proofs.Common.{◌≡◌}
use Rattle.bench_calls.proofs.queues.queue_run.Given as goal

abbrev pub invariant-loop-k : goal.invariant-loop-k
invariant-loop-k l = l.queue.room ≡ l.groups

abbrev pub invariant-loop-k-2 : goal.invariant-loop-k-2
invariant-loop-k-2 l = l.queue.room ≡ l.groups
