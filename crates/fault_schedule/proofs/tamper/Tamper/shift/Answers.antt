use Rattle.std.proofs.Common.{sym}
use Rattle.fault_schedule.proofs.Spans.{shift-same}
use Rattle.fault_schedule.proofs.tamper.Tamper.shift.Goals as goal

pub loop-line-init : goal.loop-line-init
loop-line-init c = sym (shift-same _ _ c.args.at c.args.op c.lines_of-line-items.ensures)
