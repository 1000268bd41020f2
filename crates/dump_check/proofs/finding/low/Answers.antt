use Rattle.wide_blocks.proofs.Bits.{masked}
use Rattle.dump_check.proofs.finding.low.Goals as goal

pub returns : goal.returns
returns c = masked c.args.n c.args.bits c.requires
