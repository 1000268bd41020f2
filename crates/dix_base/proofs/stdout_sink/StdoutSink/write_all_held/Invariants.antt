-- The count of faults stays.
use Rattle.std.proofs.Common.{◌≡◌}
use Rattle.dix_base.proofs.stdout_sink.StdoutSink.write_all_held.Given as goal

abbrev pub invariant-loop : goal.invariant-loop
invariant-loop l = l.self ≡ l.fn.self
