use Rattle.std.proofs.Common.{◌*◌}
use Rattle.page_pool.proofs.Spreads.{once-range}
use Rattle.stack_core.proofs.settle.zero_tuple.Goals as goal

pub zero-requires-clause-once : goal.zero-requires-clause-once
zero-requires-clause-once c = once-range c.args.tuples.now (8 * c.args.k) 8 c.requires.once
