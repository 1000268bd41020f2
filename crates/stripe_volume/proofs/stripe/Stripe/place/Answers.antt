use Rattle.std.proofs.Common.{sym}
use Rattle.stripe_volume.proofs.Places.{alone}
use Rattle.stripe_volume.proofs.stripe.Stripe.place.Goals as goal

pub returns-clause-alone : goal.returns-clause-alone
returns-clause-alone c whole apart w lies = alone c.args.self.now w c.args.v _ _ c.requires.legs whole apart lies (c.requires.holds, sym (rw c.from-chunk.ensures at c.place_on.ensures))
