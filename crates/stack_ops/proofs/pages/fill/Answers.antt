use Rattle.std.proofs.Common.{◌≡◌, ◌∙◌, ap, length, replicate, rules, subst}
use Rattle.page_pool.specs.Pages.{Wrote, with_part}
use Rattle.page_pool.specs.Places.{places_of}
use Rattle.page_pool.proofs.Paging.{wrote-with_part}
use Rattle.stack_ops.proofs.pages.fill.Goals as goal

pub returns : goal.returns
returns c =
    let pool = c.args.pool.now in
    let s = c.args.seg in
    let w = c.fill.new.self in
    let filled : w ≡ replicate (length c.part_mut.result.now) c.args.byte = search rules in
    let all : w ≡ replicate s.len c.args.byte = filled ∙ ap (λ n. replicate n c.args.byte) c.part_mut.ensures.len in
    subst (λ bytes. Wrote pool (with_part pool s w) (places_of s) bytes) all (wrote-with_part pool s w c.requires c.part_mut.ensures.whole (c.fill.ensures.len ∙ c.part_mut.ensures.len))
