use Rattle.std.proofs.Common.{arith, length-set}
use Rattle.std.proofs.lemmas.Grind.{common_steps}
use Rattle.fault_schedule.proofs.Xored.{one-more, all-xored}
use Rattle.fault_schedule.proofs.tamper.xor_into.Goals as goal

pub loop-i-preserved : goal.loop-i-preserved
loop-i-preserved c k h = one-more c.args.off c.loop-i.i k _ _ c.loop-i.block (grind (arith, common_steps)) c.loop-i.invariant (rw length-set at h)

pub returns : goal.returns
returns c = all-xored c.args.off c.min-reach.result c.loop-i.i c.args.bytes.now c.args.block.now c.loop-i.block (omega arith) c.loop-i.auto.block (omega arith) c.loop-i.invariant
