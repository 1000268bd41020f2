use Rattle.std.proofs.Common.{sym, ◌∙◌}
use Rattle.wide_blocks.specs.Blocks.{in_line}
use Rattle.wide_blocks.proofs.Checks.{one_more}
use Rattle.wide_blocks.proofs.checking.verify_wide.Goals as goal

pub loop-i-preserved : goal.loop-i-preserved
loop-i-preserved c = one_more c.args.layout.now c.args.want.now (in_line c.args.layout.now c.args.blocks.now) c.args.start c.loop-i.i c.loop-i.invariant (sym c.look.ensures.found ∙ c.in_default.is)
