use Rattle.stripe_volume.proofs.Apart.{decided}
use Rattle.stripe_volume.proofs.stripe.Stripe.is_apart.Goals as goal

pub returns-clause-apart : goal.returns-clause-apart
returns-clause-apart c = decided c.args.self.now _ (rw (c.any_shared.ensures, c.as_slice.ensures, c.leg_len.ensures))
