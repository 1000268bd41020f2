use Rattle.std.proofs.Common.{◌≡◌, ◌+◌, drop}
use Rattle.mirror_laws.specs.OnLegs.{marks_written}
use Rattle.mirror_volume.proofs.marks.mark.Given as goal

abbrev pub invariant-loop-i : goal.invariant-loop-i
invariant-loop-i l = marks_written (l.v + l.i) (drop l.i l.found0) (drop l.i l.found1) l.marks ≡ marks_written l.v l.found0 l.found1 l.initial.marks
