use Rattle.std.proofs.Common.{◌∙◌, sym, arith}
use Rattle.fault_schedule.proofs.Spans.{altered-same}
use Rattle.fault_schedule.proofs.Xored.{altered-next, none-altered}
use Rattle.fault_schedule.proofs.tamper.Tamper.apply.Goals as goal

pub loop-line-init : goal.loop-line-init
loop-line-init c = sym (altered-same _ _ c.args.at c.args.label c.args.block.now c.lines_of-line-items.ensures)

pub loop-line-preserved : goal.loop-line-preserved
loop-line-preserved c = c.loop-line.invariant ∙ altered-next c.loop-line.line-index c.line-item.result _ _ _ _ _ (omega arith) c.line-item.is c.apply.ensures

pub returns : goal.returns
returns c = sym (c.loop-line.invariant ∙ none-altered c.loop-line.line-index _ _ _ _ (omega arith))
