use Rattle.std.proofs.Common.{◌≡◌, ◌++◌, take, drop}
use Rattle.mirror_volume.specs.Asked.{last_listed}
use Rattle.mirror_volume.proofs.reading.list_last.Given as goal

abbrev pub invariant-loop-i : goal.invariant-loop-i
invariant-loop-i l = take l.i l.listed ++ last_listed (drop l.i l.marks) (drop l.i l.wanted) (drop l.i l.listed) (drop l.i l.found) ≡ last_listed l.marks l.wanted l.initial.listed l.found
