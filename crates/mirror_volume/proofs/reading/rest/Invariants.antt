use Rattle.std.proofs.Common.{◌≡◌, ◌++◌, drop}
use Rattle.mirror_volume.specs.Asked.{rest_wanted}
use Rattle.mirror_volume.proofs.reading.rest.Given as goal

abbrev pub invariant-loop-i : goal.invariant-loop-i
invariant-loop-i l = l.wanted.items ++ rest_wanted (drop l.i l.marks) (drop l.i l.found) ≡ rest_wanted l.marks l.found
