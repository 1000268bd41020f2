use Rattle.std.proofs.Common.{arith}
use Rattle.script_text.proofs.Drawing.{numbers_more}
use Rattle.script_text.proofs.big.lines.Goals as goal

-- src/big.rt:180:5
pub loop-i-preserved : goal.loop-i-preserved
loop-i-preserved c = record {
  made = numbers_more c.loop-i.lines.items c.push.new.self.items _ c.args.n c.loop-i._i c.loop-i.number c.loop-i-test.true c.loop-i.invariant.made c.in_ok-push.ensures.items;
  bound = let b = c.loop-i.invariant.bound in omega (arith, b);
}
