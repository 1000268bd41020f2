use Rattle.wide_blocks.proofs.Bits.{masked}
use Rattle.wide_blocks.proofs.information.low.Goals as goal

pub returns : goal.returns
returns c = masked c.args.n c.args.width c.requires
