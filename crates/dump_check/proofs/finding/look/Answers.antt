use Rattle.dump_check.proofs.Blocks.{narrow_looked}
use Rattle.dump_check.proofs.finding.look.Goals as goal

pub returns : goal.returns
returns c = narrow_looked c.args.layout c.args.want c.args.block.now _ _ _ _ _ c.covered-covered.ensures c.kind_of.ensures c.guard-guard.ensures c.eight_at-tuple.ensures c.in-Ok.ensures.checked.2
