use Rattle.std.proofs.Common.{◌≡◌, ◌*◌, ap, ◌∙◌, arith}
use Rattle.page_pool.specs.Places.{total}
use Rattle.bench_calls.proofs.WholePages.{none, one_more, total-whole}
use Rattle.bench_calls.proofs.payloads.whole_pages.Goals as goal

pub loop-i-init : goal.loop-i-init
loop-i-init c = c.new-segs.ensures.items ∙ none c.args.first

pub loop-i-preserved : goal.loop-i-preserved
loop-i-preserved c =
    let invariant = c.loop-i.invariant in
    let more = one_more c.args.first c.loop-i.i in
    let pushed = c.in_ok-push.ensures.ok in
    cc

pub from_segs-requires : goal.from_segs-requires
from_segs-requires c =
    let sum : total c.loop-i.segs.items ≡ 4096 * c.loop-i.i = ap total c.loop-i.invariant ∙ total-whole c.args.first c.loop-i.i in
    omega arith
