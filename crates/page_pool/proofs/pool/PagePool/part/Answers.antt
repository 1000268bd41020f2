use Rattle.std.proofs.Common.{◌∙◌, sym, subst, arith}
use Rattle.page_pool.specs.Pages.{AreWhole}
use Rattle.page_pool.proofs.Paging.{page_of-segment, part-is, range_is}
use Rattle.page_pool.proofs.pool.PagePool.part.Goals as goal

pub slice_bounds-result-end : goal.slice_bounds-result-end
slice_bounds-result-end c =
    let page = page_of-segment c.args.self.now c.self.inside.pages.items c.args.s c.index-page.result.now (sym c.self.view_is) c.self.invariant c.requires c.index-page.ensures in
    let size = page.size in
    let value = c.deref.ensures.len in
    let fits = c.requires.in_page in
    omega arith

pub returns-clause-value : goal.returns-clause-value
returns-clause-value c =
    let page = page_of-segment c.args.self.now c.self.inside.pages.items c.args.s c.index-page.result.now (sym c.self.view_is) c.self.invariant c.requires c.index-page.ensures in
    rw c.deref.ensures.value (range_is c.args.self.now c.args.s c.index-page.result.now.items page)

pub returns-clause-bytes : goal.returns-clause-bytes
returns-clause-bytes c =
    let page = page_of-segment c.args.self.now c.self.inside.pages.items c.args.s c.index-page.result.now (sym c.self.view_is) c.self.invariant c.requires c.index-page.ensures in
    let whole = subst (λ p. AreWhole p) c.self.view_is c.self.invariant in
    rw c.deref.ensures.value (range_is c.args.self.now c.args.s c.index-page.result.now.items page ∙ part-is c.args.self.now c.args.s whole c.requires)
