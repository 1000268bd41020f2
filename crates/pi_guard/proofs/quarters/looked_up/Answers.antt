use Rattle.std.proofs.Common.{refl}
use Rattle.pi_guard.proofs.Lookup.{high_ok, low_ok, by_sixteens_are}
use Rattle.pi_guard.proofs.quarters.looked_up.Goals as goal

pub swizzle-upper : goal.swizzle-upper
swizzle-upper c = high_ok 2 32 refl c.args.from c.fits-from

pub swizzle-lower : goal.swizzle-lower
swizzle-lower c = low_ok 2 32 refl c.args.from c.fits-from

pub returns : goal.returns
returns c = by_sixteens_are c.args.high c.args.low c.args.from c.fits-from
