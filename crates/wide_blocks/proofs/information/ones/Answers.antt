use Rattle.std.proofs.Common.{◌∙◌}
use Rattle.wide_blocks.proofs.Bits.{all_ones}
use Rattle.wide_blocks.proofs.information.ones.Goals as goal

pub returns : goal.returns
returns c = c.low.ensures ∙ all_ones c.args.width c.requires
