use Rattle.std.proofs.Common.{◌≡◌, ◌*◌, map, ap, ◌∙◌, arith}
use Rattle.page_pool.specs.Places.{total}
use Rattle.merge_queue.specs.Groups.{numbers}
use Rattle.stack_walk_laws.specs.Requests.{pages_for, tuple_page}
use Rattle.stack_walk_laws.proofs.Counts.{numbers-more}
use Rattle.stack_walk_laws.proofs.Private.{total-private}
use Rattle.stack_core.proofs.requests.private_tuples.Goals as goal

pub loop-i-preserved : goal.loop-i-preserved
loop-i-preserved c =
    let e = numbers-more (tuple_page c.args.page c.args.count) c.loop-i.i in
    let p = c.in_ok-push.ensures.ok in
    let t = c.tuple_page.ensures in
    let h = c.loop-i.invariant in
    cc

pub from_segs-requires : goal.from_segs-requires
from_segs-requires c =
    let i : c.loop-i.i ≡ pages_for c.args.count = omega (arith, c.pages_for-i-end.ensures) in
    let t : total c.loop-i.segs.items ≡ 8 * c.args.count = ap total (c.loop-i.invariant ∙ ap (λ n. map (tuple_page c.args.page c.args.count) (numbers 0 n)) i) ∙ total-private c.args.page c.args.count in
    omega arith
