use Rattle.std.proofs.Common.{◌∙◌, sym, ap, subst, arith}
use Rattle.page_pool.specs.Places.{places_in}
use Rattle.page_pool.specs.Cuts.{upto}
use Rattle.page_pool.specs.Walking.{InPages}
use Rattle.page_pool.proofs.Cutting.{upto-0}
use Rattle.page_pool.proofs.Walks.{begins, took, still_in_pages, stays}
use Rattle.page_pool.proofs.walk.Walk.next_part.Goals as goal

pub overflow_add-self : goal.overflow_add-self
overflow_add-self c =
    let begun = begins c.first_ahead-at.result.0.now c.in-Some._more.now c.in-Some.first.now c.first_ahead-at.result.1 c.first_ahead-at.ensures.first c.in-Some.ensures.cases.0 in
    let inside = begun.inside in
    omega arith

pub overflow_add-result : goal.overflow_add-result
overflow_add-result c =
    let begun = begins c.first_ahead-at.result.0.now c.in-Some._more.now c.in-Some.first.now c.first_ahead-at.result.1 c.first_ahead-at.ensures.first c.in-Some.ensures.cases.0 in
    let page = begun.page (subst (λ l. InPages (places_in l)) (sym c.first_ahead-at.ensures.same) c.self.invariant) in
    omega arith

pub invariant_of-self-2 : goal.invariant_of-self-2
invariant_of-self-2 c = still_in_pages c.first_ahead-at.result.0.now c.first_ahead-at.result.1 c.min-len.result (subst (λ l. InPages (places_in l)) (sym c.first_ahead-at.ensures.same) c.self.invariant)

pub returns-then-most-eq0 : goal.returns-then-most-eq0
returns-then-most-eq0 c = (ap (λ n. upto n c.args.self.now) c.if-most-eq0.true ∙ upto-0 c.args.self.now, stays c.args.self.now c.self.inside.segs.now c.self.inside.at (sym c.self.view_is))

pub returns : goal.returns
returns c =
    let begun = begins c.first_ahead-at.result.0.now c.in-Some._more.now c.in-Some.first.now c.first_ahead-at.result.1 c.first_ahead-at.ensures.first c.in-Some.ensures.cases.0 in
    took c.args.self.now c.first_ahead-at.result.0.now c.in-Some._more.now c.in-Some.first.now c.first_ahead-at.result.1 c.min-len.result c.args.most (sym c.self.view_is ∙ sym c.first_ahead-at.ensures.same) c.in-Some.ensures.cases.0 begun.inside c.min-len.ensures (omega arith)
