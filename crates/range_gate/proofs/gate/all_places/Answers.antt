use Rattle.range_gate.proofs.Unended.{one_more}
use Rattle.range_gate.proofs.gate.all_places.Goals as goal

pub loop-i-preserved : goal.loop-i-preserved
loop-i-preserved c = one_more c.loop-i.places.items c.push.new.self.items c.loop-i.i c.args.count c.loop-i-test.true c.loop-i.invariant c.in_ok-push.ensures.items
