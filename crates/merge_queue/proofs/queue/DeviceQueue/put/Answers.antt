use Rattle.std.proofs.Common.{arith}
use Rattle.merge_queue.proofs.Counts.{kept-came}
use Rattle.merge_queue.proofs.Firsts.{none-put}
use Rattle.merge_queue.proofs.queue.DeviceQueue.put.Goals as goal

pub overflow_add-self : goal.overflow_add-self
overflow_add-self c =
    let k = kept-came c.self.inside.limits c.self.inside.index.groups c.put-at.new.self.groups c.self.inside.count c.self.inside.longest c.max-self-inside.result c.put-at.result c.links-pairs.result c.args.run.now c.self.invariant.0
    c.put-at.ensures.bound c.put-at.ensures.place (omega arith) (omega arith) c.links-pairs.ensures.count c.links-pairs.ensures.groups in
    let b = k.0 in
    omega arith

pub invariant_of-self : goal.invariant_of-self
invariant_of-self c = (
  (kept-came c.self.inside.limits c.self.inside.index.groups c.put-at.new.self.groups c.self.inside.count c.self.inside.longest c.max-self-inside.result c.put-at.result c.links-pairs.result c.args.run.now c.self.invariant.0
      c.put-at.ensures.bound c.put-at.ensures.place (omega arith) (omega arith) c.links-pairs.ensures.count c.links-pairs.ensures.groups).1,
  none-put c.self.inside.limits c.self.inside.index.groups c.put-at.new.self.groups c.put-at.result c.self.inside.first c.lowered-self-inside.result c.args.run.now c.put-at.ensures.bound c.put-at.ensures.place c.self.invariant.1
      c.lowered-self-inside.ensures.low c.lowered-self-inside.ensures.behind c.lowered-self-inside.ensures.before,
)
