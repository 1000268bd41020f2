use Rattle.bench_calls.specs.Requests.{IsRequest}
use Rattle.bench_calls.proofs.payloads.last_guard.Given as goal

abbrev pub invariant-loop-i : goal.invariant-loop-i
invariant-loop-i l = IsRequest l.request
