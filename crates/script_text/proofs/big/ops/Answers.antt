use Rattle.script_text.proofs.Drawing.{ops_more, states_more}
use Rattle.script_text.proofs.big.ops.Goals as goal

-- src/big.rt:135:5
pub loop-i-preserved : goal.loop-i-preserved
loop-i-preserved c = record {
  made = ops_more c.loop-i.ops.items c.push.new.self.items _ c.in_ok-next_op.field-0 c.args.n c.loop-i._i c.loop-i.draws.state c.next_op.new.draws.state c.loop-i-test.true c.loop-i.invariant.made c.in_ok-push.ensures.items c.in_ok-next_op.ensures.value c.in_ok-next_op.ensures.state;
  state = states_more c.args.n c.loop-i._i c.loop-i.draws.state c.next_op.new.draws.state _ c.loop-i-test.true c.loop-i.invariant.state c.in_ok-next_op.ensures.state;
}
