use Rattle.std.proofs.Common.{◌≡◌, drop}
use Rattle.fault_schedule.specs.Altered.{shift_of}
use Rattle.fault_schedule.proofs.tamper.Tamper.shift.Given as goal

abbrev pub invariant-loop-line : goal.invariant-loop-line
invariant-loop-line l = shift_of l.self l.at l.op ≡ shift_of (drop l.line-index l.line-items) l.at l.op
