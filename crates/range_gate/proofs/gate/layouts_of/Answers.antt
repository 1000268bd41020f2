use Rattle.range_gate.proofs.Layouts.{more}
use Rattle.range_gate.proofs.gate.layouts_of.Goals as goal

pub loop-f-preserved : goal.loop-f-preserved
loop-f-preserved c =
    more c.args.footprints.now c.loop-f.prints.items c.push.new.self.items c.f-item.result c.in_ok-of.field-0 c.loop-f.f-index c.loop-f.invariant.count c.loop-f.invariant.each c.loop-f-test.true c.f-item.is c.in_ok-of.ensures c.in_ok-push.ensures.items
