use Rattle.std.proofs.Common.{◌≡◌, drop}
use Rattle.fault_schedule.specs.Altered.{altered}
use Rattle.fault_schedule.proofs.tamper.Tamper.apply.Given as goal

abbrev pub invariant-loop-line : goal.invariant-loop-line
invariant-loop-line l = altered l.self l.at l.label l.initial.block ≡ altered (drop l.line-index l.line-items) l.at l.label l.block
