use Rattle.std.proofs.Common.{◌≡◌, ◌++◌, drop}
use Rattle.mirror_volume.specs.Mending.{delivered}
use Rattle.mirror_volume.proofs.repair.delivered.Given as goal

abbrev pub invariant-loop-i : goal.invariant-loop-i
invariant-loop-i l = l.good.items ++ delivered (drop l.i l.wanted) (drop l.i l.found) ≡ delivered l.wanted l.found
