use Rattle.std.proofs.Common.{◌≡◌, ◌+◌, ◌-◌, ◌≤◌, drop, length}
use Rattle.range_gate.specs.Prints.{any_shared}
use Rattle.range_gate.proofs.print.share.Given as goal

abbrev pub invariant-loop-i : goal.invariant-loop-i
invariant-loop-i l = record {
  left : l.i ≤ length l.a;
  right : l.k ≤ length l.b;
  same : any_shared (drop l.i l.a) (drop l.k l.b) ≡ any_shared l.a l.b;
}

abbrev pub decreases-loop-i : goal.decreases-loop-i
decreases-loop-i l = (length l.a - l.i) + (length l.b - l.k)
