use Rattle.std.proofs.Common.{◌≡◌, length}
use Rattle.vector_runs.specs.Unplayed.{first_overwrite}
use Rattle.vector_runs.proofs.scripts.first_overwrite.Given as goal

abbrev pub invariant-loop-line : goal.invariant-loop-line
invariant-loop-line l = first_overwrite l.rest l.left ≡ first_overwrite l.lines l.ops

abbrev pub decreases-loop-line : goal.decreases-loop-line
decreases-loop-line l = length l.rest
