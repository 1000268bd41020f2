use Rattle.stripe_volume.proofs.Places.{runs}
use Rattle.stripe_volume.proofs.stripe.Stripe.run_from.Goals as goal

pub returns-clause-consecutive : goal.returns-clause-consecutive
returns-clause-consecutive c = rw c.from-chunk.ensures (runs c.args.self.now c.args.v c.requires.holds.0)
