use Rattle.wide_blocks.proofs.Checks.{looked_apart}
use Rattle.wide_blocks.proofs.apart.look.Goals as goal

pub returns-clause-found : goal.returns-clause-found
returns-clause-found c =
    looked_apart c.args.layout c.args.want c.args.body.now c.args.meta.now c.args.i c.info_at.result c.guard_of_both-guard.result c.info_at-2.result c.compare.result c.info_at.ensures c.guard_of_both-guard.ensures
    c.info_at-2.ensures c.compare.ensures.found
