use Rattle.page_pool.specs.Pages.{contents, IsBlank}
use Rattle.page_pool.proofs.pool.PagePool.new.Given as goal

abbrev pub invariant-loop : goal.invariant-loop
invariant-loop l = IsBlank l.counter (contents l.list.items)
