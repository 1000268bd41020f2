use Rattle.std.proofs.Common.{sym}
use Rattle.fault_schedule.proofs.Spans.{keep-same}
use Rattle.fault_schedule.proofs.tamper.Tamper.keep.Goals as goal

pub loop-line-init : goal.loop-line-init
loop-line-init c = sym (keep-same _ _ c.args.label c.lines_of-line-items.ensures)
