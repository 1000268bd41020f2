use Rattle.std.proofs.Common.{take}
use Rattle.integrity_payload.specs.Payloads.{AreWholeTuples}
use Rattle.test_groups.proofs.tuples.whole_tuples.Given as goal

abbrev pub invariant-loop-s : goal.invariant-loop-s
invariant-loop-s l = AreWholeTuples (take l.s-index l.segs)
