use Rattle.std.proofs.Common.{ℕ, ◌<◌}
use Rattle.stripe_volume.specs.Stripes.{LegHas}
use Rattle.stripe_volume.proofs.stripe.Stripe.leg_of.Given as goal

abbrev pub invariant-loop-i : goal.invariant-loop-i
invariant-loop-i l = (k : ℕ) → k < l.i → LegHas l.self k l.dev l.lba → ⊥
