use Rattle.std.proofs.Common.{◌++◌, arith, length-append}
use Rattle.std.proofs.lemmas.Simd.{pick_l-range_with_len}
use Rattle.pi_guard.proofs.broad.half_on.Goals as goal

pub returns : goal.returns
returns c = pick_l-range_with_len 0 (c.args.a ++ c.args.b) 16 32 (omega (arith, length-append c.args.a c.args.b, c.fits-a.0, c.fits-b.0))
