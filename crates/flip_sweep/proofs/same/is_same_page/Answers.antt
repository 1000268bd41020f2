use Rattle.std.proofs.Common.{ap, ◌∙◌}
use Rattle.std.specs.Str.{bytes_eq}
use Rattle.page_pool.specs.Pages.{page_of}
use Rattle.flip_sweep.proofs.Alike.{all_of}
use Rattle.flip_sweep.proofs.same.is_same_page.Goals as goal

pub returns : goal.returns
returns c =
    c.eq.ensures
    ∙ ap (λ xs. bytes_eq xs c.part-2.result.now) (c.part.ensures.value ∙ all_of c.args.one.now c.args.page c.part.ensures.whole c.requires.one)
    ∙ ap (λ ys. bytes_eq (page_of c.args.one.now c.args.page) ys) (c.part-2.ensures.value ∙ all_of c.args.other.now c.args.page c.part-2.ensures.whole c.requires.other)
