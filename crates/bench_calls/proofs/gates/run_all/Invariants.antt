use Rattle.std.proofs.Common.{◌≡◌, length}
use Rattle.bench_calls.proofs.gates.run_all.Given as goal

abbrev pub invariant-loop-i : goal.invariant-loop-i
invariant-loop-i l = length l.gate.phases ≡ l.ops

abbrev pub invariant-loop-i-2 : goal.invariant-loop-i-2
invariant-loop-i-2 l = length l.gate.phases ≡ l.ops
