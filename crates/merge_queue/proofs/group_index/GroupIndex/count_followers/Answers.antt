use Rattle.std.proofs.Common.{arith, ap, ◌∙◌, ◌≡◌}
use Rattle.std.specs.Prelude.{if◌then◌else◌}
use Rattle.merge_queue.specs.Groups.{may_join}
use Rattle.merge_queue.proofs.Joins.{count-more, one-or-none}
use Rattle.merge_queue.proofs.group_index.GroupIndex.count_followers.Goals as goal

pub loop-j-preserved : goal.loop-j-preserved
loop-j-preserved c =
    let m = count-more (may_join c.args.lim.now c.args.self.now.groups c.args.i) c.loop-j.j c.behind-from.result.1 (omega arith) in
    let e : c.as_number-count.result ≡ (if may_join c.args.lim.now c.args.self.now.groups c.args.i c.loop-j.j then 1 else 0) = c.as_number-count.ensures ∙ ap (λ b. if b then 1 else 0) c.joinable.ensures in
    let o = one-or-none (may_join c.args.lim.now c.args.self.now.groups c.args.i c.loop-j.j) in
    record { sum = omega (arith, m, e, c.loop-j.invariant.sum); few = omega (arith, e, o, c.loop-j.invariant.few) }
