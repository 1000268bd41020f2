use Rattle.std.proofs.Common.{◌≡◌, ◌++◌, drop}
use Rattle.stack_ops.specs.Footprints.{touches}
use Rattle.stack_ops.proofs.footprints.add.Given as goal

abbrev pub invariant-loop-seg : goal.invariant-loop-seg
invariant-loop-seg l = l.list.items ++ touches l.writes (drop l.seg-index l.segs) ≡ l.initial.list.items ++ touches l.writes l.segs
