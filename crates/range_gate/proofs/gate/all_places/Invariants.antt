use Rattle.std.proofs.Common.{◌≡◌, ◌++◌}
use Rattle.range_gate.specs.Gates.{falling}
use Rattle.range_gate.proofs.gate.all_places.Given as goal

abbrev pub invariant-loop-i : goal.invariant-loop-i
invariant-loop-i l = l.places.items ++ falling l.i ≡ falling l.count

abbrev pub decreases-loop-i : goal.decreases-loop-i
decreases-loop-i l = l.i
