use Rattle.std.proofs.Common.{◌≡◌, ◌++◌, drop}
use Rattle.mirror_volume.specs.Asked.{first_listed}
use Rattle.mirror_volume.proofs.reading.first_listed.Given as goal

abbrev pub invariant-loop-i : goal.invariant-loop-i
invariant-loop-i l = l.listed.items ++ first_listed (drop l.i l.marks) (drop l.i l.found) ≡ first_listed l.marks l.found
