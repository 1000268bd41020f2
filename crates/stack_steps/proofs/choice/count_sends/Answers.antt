use Rattle.std.proofs.Common.{arith}
use Rattle.stack_steps.proofs.Picks.{sends-more}
use Rattle.stack_steps.proofs.choice.count_sends.Goals as goal

pub loop-d-preserved : goal.loop-d-preserved
loop-d-preserved c = let m = sends-more c.loop-d.d c.args.queues.now c.index-queues-d.result (omega arith) c.index-queues-d.is in omega (arith, m, c.loop-d.invariant, c.groups.ensures)
