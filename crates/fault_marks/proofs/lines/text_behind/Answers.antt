use Rattle.std.proofs.Common.{refl, ◌∙◌, arith}
use Rattle.fault_marks.proofs.Spans.{none_behind, one_behind}
use Rattle.fault_marks.proofs.lines.text_behind.Goals as goal

pub loop-left-preserved : goal.loop-left-preserved
loop-left-preserved c = record {
  behind = one_behind c.loop-left.left _ c.loop-left.rest.now _ c.loop-left-test.true refl c.behind_newline-rest.ensures.value ∙ c.loop-left.invariant.behind;
  short = omega (arith, c.loop-left.invariant.short, c.behind_newline-rest.ensures.shorter);
}

pub returns-clause-value : goal.returns-clause-value
returns-clause-value c = none_behind c.loop-left.left _ _ c.loop-left-test.false c.loop-left.invariant.behind
