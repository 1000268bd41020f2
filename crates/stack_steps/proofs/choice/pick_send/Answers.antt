use Rattle.std.proofs.Common.{arith, sym, ◌∙◌}
use Rattle.stack_steps.proofs.Picks.{sends-more, send-found, send-later}
use Rattle.stack_steps.proofs.choice.pick_send.Goals as goal

pub returns-then-left-count : goal.returns-then-left-count
returns-then-left-count c =
    sym (send-found c.loop-d.d c.loop-d.left c.args.queues.now c.index-queues-d.result (omega arith) c.index-queues-d.is (omega arith)) ∙ c.loop-d.invariant.same

pub loop-d-preserved : goal.loop-d-preserved
loop-d-preserved c =
    let m = sends-more c.loop-d.d c.args.queues.now c.index-queues-d.result (omega arith) c.index-queues-d.is in
    let s = send-later c.loop-d.d c.loop-d.left c.groups-count.result c.args.queues.now c.index-queues-d.result (omega arith) c.index-queues-d.is c.groups-count.ensures (omega arith) in
    record { same = s ∙ c.loop-d.invariant.same; within = omega (arith, m, c.loop-d.invariant.within, c.groups-count.ensures) }
