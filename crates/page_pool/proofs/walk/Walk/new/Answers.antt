use Rattle.std.proofs.Common.{subst, sym}
use Rattle.page_pool.specs.Walking.{InPages}
use Rattle.page_pool.proofs.Placing.{in_pages-drop}
use Rattle.page_pool.proofs.Cutting.{places-past}
use Rattle.page_pool.proofs.walk.Walk.new.Goals as goal

pub invariant_of-result : goal.invariant_of-result
invariant_of-result c = subst (λ l. InPages l) (sym (places-past c.args.at c.args.segs.now)) (in_pages-drop c.args.at _ c.requires)
