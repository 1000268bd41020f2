use Rattle.std.proofs.Common.{sym, ◌∙◌}
use Rattle.wide_blocks.specs.Blocks.{apart}
use Rattle.wide_blocks.proofs.Checks.{one_more}
use Rattle.wide_blocks.proofs.apart.verify_apart.Goals as goal

pub loop-i-preserved : goal.loop-i-preserved
loop-i-preserved c = one_more c.args.layout.now c.args.want.now (apart c.args.layout.now c.args.body.now c.args.meta.now) c.args.start c.loop-i.i c.loop-i.invariant (sym c.look.ensures.found ∙ c.in_default.is)
