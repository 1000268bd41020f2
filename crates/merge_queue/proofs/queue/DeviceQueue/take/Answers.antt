use Rattle.std.proofs.Common.{arith, ap, length, refl}
use Rattle.merge_queue.specs.Groups.{without}
use Rattle.merge_queue.proofs.Counts.{kept-gone}
use Rattle.merge_queue.proofs.Firsts.{none-taken}
use Rattle.merge_queue.proofs.queue.DeviceQueue.take.Goals as goal

pub overflow_sub-self : goal.overflow_sub-self
overflow_sub-self c =
    let v = ap (λ q. length q.groups) c.self.view_is in
    (kept-gone c.self.inside.limits c.self.inside.index.groups (without c.args.i c.self.inside.index.groups) c.self.inside.count c.self.inside.longest c.args.i c.links.result c.self.invariant.0 (omega (arith, c.requires.within)) refl c.links.ensures.count).0

pub invariant_of-self : goal.invariant_of-self
invariant_of-self c =
    let v = ap (λ q. length q.groups) c.self.view_is in (
      (kept-gone c.self.inside.limits c.self.inside.index.groups c.take.new.self.groups c.self.inside.count c.self.inside.longest c.args.i c.links.result c.self.invariant.0 (omega (arith, c.requires.within)) c.take.ensures.groups c.links.ensures.count).1,
      none-taken c.self.inside.limits c.self.inside.index.groups c.take.new.self.groups c.args.i c.self.inside.first c.groups_left-self-inside.result c.take.ensures.groups (omega (arith, c.requires.within))
          c.groups_left-self-inside.ensures.before c.groups_left-self-inside.ensures.behind c.self.invariant.1,
    )
