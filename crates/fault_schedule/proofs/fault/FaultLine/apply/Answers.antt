use Rattle.fault_schedule.proofs.Xored.{another-line, fail-line, keep-line, shift-line}
use Rattle.fault_schedule.proofs.fault.FaultLine.apply.Goals as goal

pub returns-then-not-is_at : goal.returns-then-not-is_at
returns-then-not-is_at c = another-line c.args.self.now c.args.at c.args.label c.args.block.now (cc)

pub returns-in-Shift : goal.returns-in-Shift
returns-in-Shift c = shift-line c.args.self.now c.args.at c.args.label c.args.block.now c.in-Shift.by (cc) c.in-Shift.is

pub returns-in-Keep : goal.returns-in-Keep
returns-in-Keep c = keep-line c.args.self.now c.args.at c.args.label c.args.block.now c.in-Keep.bytes (cc) c.in-Keep.is

pub returns-in-Fail : goal.returns-in-Fail
returns-in-Fail c = fail-line c.args.self.now c.args.at c.args.label c.args.block.now (cc) c.in-Fail.is
