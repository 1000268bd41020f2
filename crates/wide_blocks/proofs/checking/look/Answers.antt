use Rattle.wide_blocks.proofs.Checks.{looked_in_line}
use Rattle.wide_blocks.proofs.checking.look.Goals as goal

pub returns-clause-found : goal.returns-clause-found
returns-clause-found c =
    looked_in_line c.args.layout c.args.want c.args.blocks.now c.args.i c.stride.result c.covered.result c.guard_of-guard.result c.info_at.result c.compare.result c.stride.ensures c.covered.ensures c.guard_of-guard.ensures
    c.info_at.ensures c.compare.ensures.found
