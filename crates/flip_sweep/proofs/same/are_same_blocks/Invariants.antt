use Rattle.std.proofs.Common.{◌≡◌, length}
use Rattle.flip_sweep.specs.Verdicts.{are_same_blocks}
use Rattle.flip_sweep.proofs.same.are_same_blocks.Given as goal

abbrev pub invariant-loop-a : goal.invariant-loop-a
invariant-loop-a l = are_same_blocks l.left l.right ≡ are_same_blocks l.one l.other

abbrev pub decreases-loop-a : goal.decreases-loop-a
decreases-loop-a l = length l.left
