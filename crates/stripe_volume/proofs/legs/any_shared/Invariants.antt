use Rattle.std.proofs.Common.{◌≡◌, length}
use Rattle.stripe_volume.specs.Stripes.{any_shared}
use Rattle.stripe_volume.proofs.legs.any_shared.Given as goal

abbrev pub invariant-loop-first : goal.invariant-loop-first
invariant-loop-first l = any_shared l.len l.rest ≡ any_shared l.len l.legs

abbrev pub decreases-loop-first : goal.decreases-loop-first
decreases-loop-first l = length l.rest
