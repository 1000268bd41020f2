use Rattle.std.proofs.Common.{refl}
use Rattle.pi_guard.proofs.Lookup.{high_ok, low_ok, by_tables_are}
use Rattle.pi_guard.proofs.halves.folded_in.Goals as goal

pub swizzle-upper : goal.swizzle-upper
swizzle-upper c = high_ok 1 16 refl c.args.from c.fits-from

pub swizzle-lower : goal.swizzle-lower
swizzle-lower c = low_ok 1 16 refl c.args.from c.fits-from

pub returns : goal.returns
returns c = by_tables_are c.args.high c.args.low c.args.to c.args.from c.fits-from
