use Rattle.volume_table.proofs.Sums.{Judged}
use Rattle.volume_table.proofs.judge.first_fault.Given as goal

abbrev pub invariant-loop-i : goal.invariant-loop-i
invariant-loop-i l = Judged l.ty l.entries l.devices l.size l.i l.start
