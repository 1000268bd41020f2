use Rattle.std.proofs.Common.{◌≡◌}
use Rattle.bench_calls.specs.Requests.{whole_pages}
use Rattle.bench_calls.proofs.payloads.whole_pages.Given as goal

abbrev pub invariant-loop-i : goal.invariant-loop-i
invariant-loop-i l = l.segs.items ≡ whole_pages l.first l.i
