use Rattle.std.proofs.Common.{arith, ap, sym, ◌∙◌, ℕ, length, get_or}
use Rattle.merge_queue.proofs.Joins.{pair-found, pair-later, rows-length}
use Rattle.merge_queue.proofs.Firsts.{skipped}
use Rattle.merge_queue.proofs.group_index.GroupIndex.find_join.Goals as goal

pub returns-then-left-count : goal.returns-then-left-count
returns-then-left-count c =
    let l = c.count_followers-count.ensures.count in
    let k = rows-length c.args.lim.now c.args.self.now.groups c.loop-i.i c.groups-n.result (omega arith) in
    let r = c.loop-i.invariant.rest in (
      omega arith,
      ap (λ (z : ℕ). (c.loop-i.i, z)) c.follower.ensures
          ∙ sym (pair-found c.args.lim.now c.args.self.now.groups c.loop-i.i c.groups-n.result c.loop-i.left (omega arith) (omega arith)) ∙ c.loop-i.invariant.same,
    )

pub loop-i-preserved : goal.loop-i-preserved
loop-i-preserved c =
    let l = c.count_followers-count.ensures.count in
    let p = pair-later c.args.lim.now c.args.self.now.groups c.loop-i.i c.groups-n.result c.loop-i.left (omega arith) (omega arith) in
    let k = rows-length c.args.lim.now c.args.self.now.groups c.loop-i.i c.groups-n.result (omega arith) in
    let r = c.loop-i.invariant.rest in
    record {
      same = rw l (p.0 ∙ c.loop-i.invariant.same);
      rest = omega arith;
    }

pub loop-i-init : goal.loop-i-init
loop-i-init c =
    let m = c.min-i.ensures in
    let n = c.groups-n.ensures in
    let all = skipped c.args.lim.now c.args.self.now.groups c.min-i.result c.groups-n.result n (omega arith) (λ i j a. c.requires i j (omega arith)) in
    let long = ap length all in
    record { same = ap (λ ps. get_or ps c.args.number (0, 0)) all; rest = omega arith }
