use Rattle.std.proofs.Common.{◌≡◌, ◌≤◌, ◌+◌, min, arith}
use Rattle.mirror_volume.proofs.OwnPages.{more-segs, total-more}
use Rattle.mirror_volume.proofs.own.page_segs.Goals as goal

pub loop-page-preserved : goal.loop-page-preserved
loop-page-preserved c =
    let m : c.min-len.result ≡ min c.loop-page.left 4096 = c.min-len.ensures in
    let l : c.min-len.result ≤ c.loop-page.left = omega (arith, m) in (
      more-segs c.loop-page.segs.items c.push.new.self.items c.loop-page.page c.loop-page.left (c.args.first + c.pages_for.result) c.min-len.result _ (omega arith) m c.in_ok-push.ensures.ok c.loop-page.invariant.0,
      total-more c.loop-page.segs.items c.push.new.self.items (record { page = c.loop-page.page; off = 0; len = c.min-len.result }) c.loop-page.left c.args.bytes l c.in_ok-push.ensures.ok c.loop-page.invariant.1,
    )
