use Rattle.std.proofs.Common.{rules}
use Rattle.page_pool.proofs.Sharing.{exact}
use Rattle.page_pool.proofs.segs.Seg.shares.Goals as goal

pub returns-then-first-self-clause-exact : goal.returns-then-first-self-clause-exact
returns-then-first-self-clause-exact c = exact c.args.self c.args.other _ (search rules)

pub returns-else-first-self-clause-exact : goal.returns-else-first-self-clause-exact
returns-else-first-self-clause-exact c = exact c.args.self c.args.other _ (search rules)
