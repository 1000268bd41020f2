use Rattle.std.proofs.Common.{length, ap, ◌∙◌, arith}
use Rattle.page_pool.specs.Pages.{bytes_in}
use Rattle.page_pool.specs.Places.{total}
use Rattle.mirror_volume.specs.Inner.{pages_for}
use Rattle.mirror_volume.proofs.Suits.{segs_total}
use Rattle.mirror_volume.proofs.OwnRuns.{landed}
use Rattle.mirror_volume.proofs.legs.copy_out.Goals as goal

pub gather-requires-clause-range : goal.gather-requires-clause-range
gather-requires-clause-range c =
    let n = length c.args.into.now in
    let t = segs_total c.args.page (pages_for n) n (omega arith) in
    let e = ap total c.in_ok-segs.ensures in
    omega (arith, t, e)

pub returns-clause-bytes : goal.returns-clause-bytes
returns-clause-bytes c =
    let n = length c.args.into.now in
    c.gather.ensures ∙ (λ i. bytes_in c.args.pool.now (c.in_ok-segs.ensures i) 0 n) ∙ landed c.args.pool.now c.args.page n c.pages-pages.ensures.whole c.requires.some c.requires.lie
