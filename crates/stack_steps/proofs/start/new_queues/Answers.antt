use Rattle.std.proofs.Common.{arith, ap, length, length-append, ◌∷◌, []}
use Rattle.stack_steps.proofs.Begin.{queues-more}
use Rattle.stack_steps.proofs.start.new_queues.Goals as goal

pub loop-i-preserved : goal.loop-i-preserved
loop-i-preserved c =
    let m = queues-more c.loop-i.queues.items c.push_reserved.new.self.items c.in_ok-new_queue.field-0 c.loop-i.i c.args.room c.push_reserved.ensures.items c.loop-i.invariant.groups c.loop-i.invariant.rooms c.in_ok-new_queue.ensures.0 c.in_ok-new_queue.ensures.1 in
    let l = ap length c.push_reserved.ensures.items in
    let a = length-append c.loop-i.queues.items (c.in_ok-new_queue.field-0 ∷ []) in
    record { groups = m.0; rooms = m.1; number = omega (arith, l, a, c.loop-i.invariant.number); space = omega (arith, c.push_reserved.ensures.capacity, c.loop-i.invariant.space) }
