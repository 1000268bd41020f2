use Rattle.std.proofs.Common.{◌≡◌, drop}
use Rattle.range_gate.specs.Gates.{conflict_at, none_conflicts}
use Rattle.range_gate.specs.Windows.{clashes}
use Rattle.range_gate.proofs.gate.conflicts_with_none.Given as goal

abbrev pub invariant-loop-j : goal.invariant-loop-j
invariant-loop-j l = none_conflicts (conflict_at (clashes l.prints)) l.i (drop l.j-index l.places) ≡ none_conflicts (conflict_at (clashes l.prints)) l.i l.places
