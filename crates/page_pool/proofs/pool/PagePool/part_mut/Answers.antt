use Rattle.std.proofs.Common.{◌≡◌, ◌∙◌, refl, ap, length, sym, subst, arith, rules}
use Rattle.page_pool.specs.Pages.{AreWhole}
use Rattle.page_pool.proofs.Paging.{page_of-segment, range_is, length-part, lent-is, whole-with_part}
use Rattle.page_pool.proofs.pool.PagePool.part_mut.Goals as goal

pub slice_mut-requires-clause-in_bounds : goal.slice_mut-requires-clause-in_bounds
slice_mut-requires-clause-in_bounds c =
    let page = page_of-segment c.args.self.now c.self.inside.pages.items c.args.s c.index_mut-page.result.now (sym c.self.view_is) c.self.invariant c.requires c.index_mut-page.ensures.value in
    let size = page.size in
    let long : c.index_mut-page.result.now.len ≡ length c.index_mut-page.result.now.items = search rules in
    let fits = c.requires.in_page in
    omega arith

pub invariant_of-self-lent : goal.invariant_of-self-lent
invariant_of-self-lent c = λ w.
    let page = page_of-segment c.args.self.now c.self.inside.pages.items c.args.s c.index_mut-page.result.now (sym c.self.view_is) c.self.invariant c.requires c.index_mut-page.ensures.value in
    let long : c.index_mut-page.result.now.len ≡ length c.index_mut-page.result.now.items = search rules in
    let whole = subst (λ p. AreWhole p) c.self.view_is c.self.invariant in
    subst (λ p. AreWhole p) (sym (lent-is c.args.self.now c.self.inside.pages.items c.args.s c.index_mut-page.result.now w (sym c.self.view_is) c.requires page long))
    (whole-with_part c.args.self.now c.args.s w whole)

pub returns : goal.returns
returns c =
    let page = page_of-segment c.args.self.now c.self.inside.pages.items c.args.s c.index_mut-page.result.now (sym c.self.view_is) c.self.invariant c.requires c.index_mut-page.ensures.value in
    let long : c.index_mut-page.result.now.len ≡ length c.index_mut-page.result.now.items = search rules in
    let value = c.slice_mut.ensures.value ∙ range_is c.args.self.now c.args.s c.index_mut-page.result.now.items page in (
      (refl, λ w. lent-is c.args.self.now c.self.inside.pages.items c.args.s c.index_mut-page.result.now w (sym c.self.view_is) c.requires page long),
      record {
        writes_back = tt;
        value = value;
        len = ap length value ∙ length-part c.args.self.now c.args.s c.index_mut-page.result.now.items page c.requires;
        whole = subst (λ p. AreWhole p) c.self.view_is c.self.invariant;
      },
    )
