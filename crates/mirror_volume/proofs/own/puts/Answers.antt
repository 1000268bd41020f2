use Rattle.std.proofs.Common.{◌≡◌, ◌∙◌, ap, min, length, take, drop, arith}
use Rattle.mirror_volume.proofs.OwnPages.{more-puts}
use Rattle.mirror_volume.proofs.own.puts.Goals as goal

pub loop-page-preserved : goal.loop-page-preserved
loop-page-preserved c =
    let m : c.min.result ≡ min (length c.loop-page.rest.now) 4096 = c.min.ensures in
    let f = c.from_vec.ensures ∙ c.in_ok-from_slice.ensures.items ∙ c.split_at.ensures.front ∙ ap (λ k. take k c.loop-page.rest.now) m in
    let b = c.split_at.ensures.back ∙ ap (λ k. drop k c.loop-page.rest.now) m in
    more-puts c.loop-page.ops.items c.push.new.self.items c.loop-page.page c.loop-page.rest.now c.from_vec.result c.split_at.result.1.now c.pages_for-page-end.result _ (omega arith) f b c.in_ok-push.ensures.items c.loop-page.invariant
