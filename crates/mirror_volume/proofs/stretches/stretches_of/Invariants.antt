use Rattle.std.proofs.Common.{◌≡◌, ◌≤◌, ◌++◌, drop}
use Rattle.mirror_volume.specs.Asked.{stretches, stretches_from}
use Rattle.mirror_volume.proofs.stretches.stretches_of.Given as goal

abbrev pub invariant-loop-at : goal.invariant-loop-at
invariant-loop-at l = (l.found.items ++ stretches_from l.at l.many (drop l.at l.wanted) ≡ stretches l.wanted) × (l.many ≤ l.at)
