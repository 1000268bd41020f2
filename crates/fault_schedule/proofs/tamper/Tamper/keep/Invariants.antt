use Rattle.std.proofs.Common.{◌≡◌, drop}
use Rattle.fault_schedule.specs.Altered.{keep_of}
use Rattle.fault_schedule.proofs.tamper.Tamper.keep.Given as goal

abbrev pub invariant-loop-line : goal.invariant-loop-line
invariant-loop-line l = keep_of l.self l.label ≡ keep_of (drop l.line-index l.line-items) l.label
