use Rattle.std.proofs.Common.{◌∙◌, sym, arith, drop}
use Rattle.range_gate.proofs.Sweep.{on_left, on_right, past_right}
use Rattle.range_gate.proofs.print.share.Goals as goal

pub loop-i-preserved-then-is_first : goal.loop-i-preserved-then-is_first
loop-i-preserved-then-is_first c = record {
  left = omega arith;
  right = omega arith;
  same = on_left c.args.a.now c.args.b.now c.loop-i.i c.loop-i.k _ _ c.loop-i-test.true c.if-k-b.true c.requires.left c.requires.right (sym c.shares.ensures.value ∙ c.if-shares.false) (c.is_first.ensures.yes c.if-is_first.true) ∙ c.loop-i.invariant.same;
}

pub loop-i-preserved : goal.loop-i-preserved
loop-i-preserved c = record {
  left = omega arith;
  right = omega arith;
  same = on_right c.args.a.now c.args.b.now c.loop-i.i c.loop-i.k _ _ c.loop-i-test.true c.if-k-b.true c.requires.left c.requires.right (sym c.shares.ensures.value ∙ c.if-shares.false) (c.is_first.ensures.no c.if-is_first.false) ∙ c.loop-i.invariant.same;
}

pub returns-else-k-b : goal.returns-else-k-b
returns-else-k-b c = sym (past_right (drop c.loop-i.i c.args.a.now) c.args.b.now c.loop-i.k c.if-k-b.false) ∙ c.loop-i.invariant.same
