use Rattle.std.proofs.Common.{◌++◌, refl, arith, length-append}
use Rattle.pi_guard.proofs.Alignments.{pieces}
use Rattle.pi_guard.proofs.quarters.by_eight.Goals as goal

pub returns : goal.returns
returns c = pieces 8 8 (c.args.u ++ c.args.v) (omega (arith, length-append c.args.u c.args.v, c.fits-u.0, c.fits-v.0)) refl
