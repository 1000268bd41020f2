use Rattle.script_text.proofs.Drawing.{schedule_more}
use Rattle.script_text.proofs.big.schedule.Goals as goal

-- src/big.rt:145:5
pub loop-i-preserved : goal.loop-i-preserved
loop-i-preserved c =
    schedule_more c.loop-i.entries.items c.push.new.self.items _ c.draw-word.result c.draw-cut.result c.args.n c.loop-i._i c.loop-i.draws.state c.draw-word.new.self.state c.draw-cut.new.self.state
    c.loop-i-test.true c.loop-i.invariant c.in_ok-push.ensures.items c.draw-word.ensures.value c.draw-word.ensures.state c.draw-cut.ensures.value c.draw-cut.ensures.state
