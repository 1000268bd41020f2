use Rattle.page_pool.proofs.Spreads.{once-range}
use Rattle.stack_core.proofs.settle.blank_data.Goals as goal

pub zero-requires-clause-once : goal.zero-requires-clause-once
zero-requires-clause-once c = once-range c.args.io.now.body _ _ (c.requires.whole.once c.requires.read)
