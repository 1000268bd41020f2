use Rattle.std.proofs.Common.{◌≡◌, length}
use Rattle.flip_sweep.specs.Verdicts.{first_other}
use Rattle.flip_sweep.proofs.listing.first_other.Given as goal

abbrev pub invariant-loop-block : goal.invariant-loop-block
invariant-loop-block l = first_other l.was l.rest ≡ first_other l.was l.now

abbrev pub decreases-loop-block : goal.decreases-loop-block
decreases-loop-block l = length l.rest
