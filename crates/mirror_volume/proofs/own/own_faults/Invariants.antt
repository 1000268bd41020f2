use Rattle.std.proofs.Common.{◌≡◌, ◌++◌, drop}
use Rattle.mirror_volume.specs.Inner.{own_faults}
use Rattle.mirror_volume.proofs.own.own_faults.Given as goal

abbrev pub invariant-loop-line : goal.invariant-loop-line
invariant-loop-line l = l.own.items ++ own_faults l.piece l.request (drop l.line-index l.faults) ≡ own_faults l.piece l.request l.faults
