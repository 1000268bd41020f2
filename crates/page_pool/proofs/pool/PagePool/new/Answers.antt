use Rattle.page_pool.proofs.pool.PagePool.new.Goals as goal

pub invariant_of-result : goal.invariant_of-result
invariant_of-result c = c.loop.invariant.whole
