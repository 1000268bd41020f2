use Rattle.std.proofs.Common.{◌∙◌, sym, ap, arith}
use Rattle.page_pool.specs.Cuts.{past}
use Rattle.page_pool.proofs.Cutting.{past-over}
use Rattle.page_pool.proofs.walk.first_ahead.Goals as goal

pub loop-first-preserved : goal.loop-first-preserved
loop-first-preserved c =
    let cells = c.in-Some.ensures.cases.0 in
    sym (past-over c.loop-first.at c.in-Some.first.now c.in-Some.more.now (omega arith)) ∙ (ap (past c.loop-first.at) (sym cells) ∙ c.loop-first.invariant)
