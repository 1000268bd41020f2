use Rattle.std.proofs.Common.{◌≡◌, length}
use Rattle.bench_calls.proofs.targets.last_done.Given as goal

abbrev pub invariant-loop-i : goal.invariant-loop-i
invariant-loop-i l = length l.store.bytes ≡ 532480
