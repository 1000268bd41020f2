use Rattle.std.proofs.Common.{◌≡◌, vec_len}
use Rattle.bench_calls.proofs.gates.prints_of.Given as goal

abbrev pub invariant-loop-k : goal.invariant-loop-k
invariant-loop-k l = vec_len l.prints ≡ l.k
