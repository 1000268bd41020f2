use Rattle.std.proofs.Common.{◌≡◌, ◌+◌, ◌≤◌, length}
use Rattle.flip_sweep.specs.Verdicts.{first_found}
use Rattle.flip_sweep.proofs.listing.first_found.Given as goal

abbrev pub invariant-loop-reply : goal.invariant-loop-reply
invariant-loop-reply l = record {
  found : first_found l.op l.before l.rest ≡ first_found 1 l.was l.now;
  few : l.op + length l.rest ≤ 1 + length l.now;
}

abbrev pub decreases-loop-reply : goal.decreases-loop-reply
decreases-loop-reply l = length l.rest
