use Rattle.pi_blocks.proofs.Checks.{guard_in_line, looked_in_line}
use Rattle.pi_blocks.proofs.checking.look.Goals as goal

pub returns-clause-found : goal.returns-clause-found
returns-clause-found c =
    let guard = guard_in_line c.args.layout c.args.blocks.now c.args.i c.stride.result c.covered.result c.guard-guard.result c.kind.result c.stride.ensures c.covered.ensures c.kind.ensures c.guard-guard.ensures in
    looked_in_line c.args.layout c.args.want c.args.blocks.now c.args.i c.stride.result c.covered.result c.guard-guard.result c.tuple_at.result c.compare.result c.stride.ensures c.covered.ensures guard c.tuple_at.ensures c.compare.ensures.found
