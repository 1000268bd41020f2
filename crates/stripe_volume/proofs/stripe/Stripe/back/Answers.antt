use Rattle.std.proofs.Common.{◌≡◌, None, Some, ap, refl, subst}
use Rattle.stripe_volume.specs.Stripes.{LiesAt, leg}
use Rattle.stripe_volume.proofs.Places.{alone, is_on, turn}
use Rattle.stripe_volume.proofs.stripe.Stripe.back.Goals as goal

pub returns-in_err-i-clause-inverse : goal.returns-in_err-i-clause-inverse
returns-in_err-i-clause-inverse c v =
    let s = c.args.self.now in
    let nothing : c.from_residual.result ≡ None = c.from_residual.ensures in (
      λ e. cc,
      λ h. absurd (c.in_err-i.ensures.none refl (turn s v) (is_on s v c.args.dev c.args.lba c.requires.legs c.requires.whole h).has),
    )

pub returns-clause-inverse : goal.returns-clause-inverse
returns-clause-inverse c v =
    let s = c.args.self.now in
    let on : (leg s c.in_ok-i.i).dev ≡ c.args.dev = c.in_ok-i.ensures.found.1 in
    let there : LiesAt s c.block_on.result c.args.dev c.args.lba = subst (λ d. LiesAt s c.block_on.result d c.args.lba) on c.block_on.ensures in (
      λ e. let same : c.block_on.result ≡ v = cc in subst (λ w. LiesAt s w c.args.dev c.args.lba) same there,
      λ h. ap (λ w. Some w) (alone s c.block_on.result v c.args.dev c.args.lba c.requires.legs c.requires.whole c.requires.apart there h),
    )
