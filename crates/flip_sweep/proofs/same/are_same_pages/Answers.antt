use Rattle.std.proofs.Common.{◌≡◌, ◌<◌, length, true, false, sym, ◌∙◌, arith}
use Rattle.std.proofs.lemmas.Slice.Eq.{bytes_eq-Decides}
use Rattle.page_pool.specs.Pages.{page_of}
use Rattle.flip_sweep.proofs.Alike.{all_same, count_differs, one_more, page_differs}
use Rattle.flip_sweep.proofs.same.are_same_pages.Goals as goal

pub returns-then-count-min : goal.returns-then-count-min
returns-then-count-min c =
    count_differs c.args.one.now c.args.other.now c.args.pages c.pages.ensures.whole c.pages-2.ensures.whole
    (λ e. c.if-count-min.true (omega (arith, e, c.min-count.ensures, c.min.ensures, c.pages.ensures.count, c.pages-2.ensures.count)))

pub returns-then-not-is_same_page : goal.returns-then-not-is_same_page
returns-then-not-is_same_page c =
    let i = c.loop-page.page in
    let l : i < length c.args.one.now = omega (arith, c.loop-page-test.true, c.min-count.ensures, c.pages.ensures.count) in
    let m : i < length c.args.other.now = omega (arith, c.loop-page-test.true, c.min-count.ensures, c.min.ensures, c.if-count-min.false, c.pages-2.ensures.count) in
    let p : i < c.args.pages = omega (arith, c.loop-page-test.true, c.min-count.ensures) in
    page_differs c.args.one.now c.args.other.now i c.args.pages c.pages.ensures.whole c.pages-2.ensures.whole l m p
    (λ e. let t : true ≡ false = sym ((bytes_eq-Decides (page_of c.args.one.now i) (page_of c.args.other.now i)).1 e) ∙ sym c.is_same_page.ensures ∙ c.if-not-is_same_page.true in absurd (cc))

pub loop-page-preserved : goal.loop-page-preserved
loop-page-preserved c =
    let i = c.loop-page.page in
    let l : i < length c.args.one.now = omega (arith, c.loop-page-test.true, c.min-count.ensures, c.pages.ensures.count) in
    let m : i < length c.args.other.now = omega (arith, c.loop-page-test.true, c.min-count.ensures, c.min.ensures, c.if-count-min.false, c.pages-2.ensures.count) in
    one_more c.args.one.now c.args.other.now i c.pages.ensures.whole c.pages-2.ensures.whole l m
    ((bytes_eq-Decides (page_of c.args.one.now i) (page_of c.args.other.now i)).0 (sym c.is_same_page.ensures ∙ c.if-not-is_same_page.false)) c.loop-page.invariant

pub returns : goal.returns
returns c =
    all_same c.args.one.now c.args.other.now c.args.pages c.loop-page.page c.pages.ensures.whole c.pages-2.ensures.whole
    (omega (arith, c.loop-page-test.false, c.loop-page.auto, c.min-count.ensures, c.pages.ensures.count))
    (omega (arith, c.loop-page-test.false, c.loop-page.auto, c.min-count.ensures, c.min.ensures, c.if-count-min.false, c.pages-2.ensures.count))
    c.loop-page.invariant
