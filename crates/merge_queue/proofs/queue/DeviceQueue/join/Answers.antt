use Rattle.std.proofs.Common.{arith, ap, length}
use Rattle.merge_queue.proofs.Counts.{IsLeft, joined-long, kept-joined, joined-within, two-within}
use Rattle.merge_queue.proofs.Firsts.{none-joined}
use Rattle.merge_queue.proofs.queue.DeviceQueue.join.Goals as goal

pub overflow_sub-self : goal.overflow_sub-self
overflow_sub-self c =
    let v = ap (λ q. length q.groups) c.self.view_is in
    let t = two-within c.self.inside.limits c.self.inside.index.groups c.args.i c.args.j c.links_of_two.result (omega (arith, c.requires.first)) (omega (arith, c.requires.second)) c.requires.other c.links_of_two.ensures in
    omega (arith, c.self.invariant.0.count)

pub blocks-requires : goal.blocks-requires
blocks-requires c =
    let v = ap (λ q. length q.groups) c.self.view_is in
    let w : IsLeft c.args.i c.args.j c.place_left-at.result = record { other = c.requires.other; before = c.place_left-at.ensures.before; behind = c.place_left-at.ensures.behind } in
    joined-long c.self.inside.limits c.self.inside.index.groups c.join.new.self.groups c.args.i c.args.j c.place_left-at.result c.links_of_two.result
    (omega (arith, c.requires.first)) (omega (arith, c.requires.second)) w c.join.ensures.groups c.links_of_two.ensures

pub links-pairs-requires-clause-there : goal.links-pairs-requires-clause-there
links-pairs-requires-clause-there c =
    let v = ap (λ q. length q.groups) c.self.view_is in
    let w : IsLeft c.args.i c.args.j c.place_left-at.result = record { other = c.requires.other; before = c.place_left-at.ensures.before; behind = c.place_left-at.ensures.behind } in
    joined-long c.self.inside.limits c.self.inside.index.groups c.join.new.self.groups c.args.i c.args.j c.place_left-at.result c.links_of_two.result
    (omega (arith, c.requires.first)) (omega (arith, c.requires.second)) w c.join.ensures.groups c.links_of_two.ensures

pub links-pairs-requires-clause-within : goal.links-pairs-requires-clause-within
links-pairs-requires-clause-within c =
    let v = ap (λ q. length q.groups) c.self.view_is in
    let w : IsLeft c.args.i c.args.j c.place_left-at.result = record { other = c.requires.other; before = c.place_left-at.ensures.before; behind = c.place_left-at.ensures.behind } in
    joined-within c.self.inside.index.groups c.join.new.self.groups c.self.inside.longest c.max-self-inside.result c.args.i c.args.j c.place_left-at.result (omega (arith, c.requires.first)) w c.join.ensures.groups
    (omega arith) (omega arith) c.self.invariant.0.within

pub lowered-self-inside-requires-clause-there : goal.lowered-self-inside-requires-clause-there
lowered-self-inside-requires-clause-there c =
    let v = ap (λ q. length q.groups) c.self.view_is in
    let w : IsLeft c.args.i c.args.j c.place_left-at.result = record { other = c.requires.other; before = c.place_left-at.ensures.before; behind = c.place_left-at.ensures.behind } in
    joined-long c.self.inside.limits c.self.inside.index.groups c.join.new.self.groups c.args.i c.args.j c.place_left-at.result c.links_of_two.result
    (omega (arith, c.requires.first)) (omega (arith, c.requires.second)) w c.join.ensures.groups c.links_of_two.ensures

pub lowered-self-inside-requires-clause-within : goal.lowered-self-inside-requires-clause-within
lowered-self-inside-requires-clause-within c =
    let v = ap (λ q. length q.groups) c.self.view_is in
    let w : IsLeft c.args.i c.args.j c.place_left-at.result = record { other = c.requires.other; before = c.place_left-at.ensures.before; behind = c.place_left-at.ensures.behind } in
    joined-within c.self.inside.index.groups c.join.new.self.groups c.self.inside.longest c.max-self-inside.result c.args.i c.args.j c.place_left-at.result (omega (arith, c.requires.first)) w c.join.ensures.groups
    (omega arith) (omega arith) c.self.invariant.0.within

pub overflow_add-self : goal.overflow_add-self
overflow_add-self c =
    let v = ap (λ q. length q.groups) c.self.view_is in
    let w : IsLeft c.args.i c.args.j c.place_left-at.result = record { other = c.requires.other; before = c.place_left-at.ensures.before; behind = c.place_left-at.ensures.behind } in
    let k = kept-joined c.self.inside.limits c.self.inside.index.groups c.join.new.self.groups c.self.inside.count c.self.inside.longest c.max-self-inside.result c.args.i c.args.j c.place_left-at.result c.links_of_two.result c.links-pairs.result c.self.invariant.0
    (omega (arith, c.requires.first)) (omega (arith, c.requires.second)) w c.join.ensures.groups c.links_of_two.ensures
    (joined-within c.self.inside.index.groups c.join.new.self.groups c.self.inside.longest c.max-self-inside.result c.args.i c.args.j c.place_left-at.result (omega (arith, c.requires.first)) w c.join.ensures.groups (omega arith) (omega arith) c.self.invariant.0.within)
    c.links-pairs.ensures.count c.links-pairs.ensures.groups in
    let b = k.0 in
    omega arith

pub invariant_of-self : goal.invariant_of-self
invariant_of-self c =
    let v = ap (λ q. length q.groups) c.self.view_is in
    let w : IsLeft c.args.i c.args.j c.place_left-at.result = record { other = c.requires.other; before = c.place_left-at.ensures.before; behind = c.place_left-at.ensures.behind } in (
      (kept-joined c.self.inside.limits c.self.inside.index.groups c.join.new.self.groups c.self.inside.count c.self.inside.longest c.max-self-inside.result c.args.i c.args.j c.place_left-at.result c.links_of_two.result c.links-pairs.result c.self.invariant.0
          (omega (arith, c.requires.first)) (omega (arith, c.requires.second)) w c.join.ensures.groups c.links_of_two.ensures
          (joined-within c.self.inside.index.groups c.join.new.self.groups c.self.inside.longest c.max-self-inside.result c.args.i c.args.j c.place_left-at.result (omega (arith, c.requires.first)) w c.join.ensures.groups (omega arith) (omega arith) c.self.invariant.0.within)
          c.links-pairs.ensures.count c.links-pairs.ensures.groups).1,
      none-joined c.self.inside.limits c.self.inside.index.groups c.join.new.self.groups c.args.i c.args.j c.place_left-at.result c.first_joinable-first.result c.groups_left.result c.groups_left-left.result c.lowered-self-inside.result
          w c.join.ensures.groups (omega (arith, c.requires.second))
          (joined-long c.self.inside.limits c.self.inside.index.groups c.join.new.self.groups c.args.i c.args.j c.place_left-at.result c.links_of_two.result
          (omega (arith, c.requires.first)) (omega (arith, c.requires.second)) w c.join.ensures.groups c.links_of_two.ensures)
          c.first_joinable-first.ensures c.groups_left.ensures.before c.groups_left.ensures.behind c.groups_left-left.ensures.before c.groups_left-left.ensures.behind
          c.lowered-self-inside.ensures.low c.lowered-self-inside.ensures.behind c.lowered-self-inside.ensures.before,
    )
