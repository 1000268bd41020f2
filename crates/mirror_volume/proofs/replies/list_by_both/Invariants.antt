use Rattle.std.proofs.Common.{◌≡◌, ◌++◌, take, drop}
use Rattle.mirror_laws.specs.OnLegs.{listed_written}
use Rattle.mirror_volume.proofs.replies.list_by_both.Given as goal

abbrev pub invariant-loop-i : goal.invariant-loop-i
invariant-loop-i l = take l.i l.found0 ++ listed_written (drop l.i l.found0) (drop l.i l.found1) ≡ listed_written l.initial.found0 l.found1
