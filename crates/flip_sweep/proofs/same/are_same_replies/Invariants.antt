use Rattle.std.proofs.Common.{◌≡◌, length}
use Rattle.flip_sweep.specs.Verdicts.{are_same_replies}
use Rattle.flip_sweep.proofs.same.are_same_replies.Given as goal

abbrev pub invariant-loop-a : goal.invariant-loop-a
invariant-loop-a l = are_same_replies l.left l.right ≡ are_same_replies l.one l.other

abbrev pub decreases-loop-a : goal.decreases-loop-a
decreases-loop-a l = length l.left
