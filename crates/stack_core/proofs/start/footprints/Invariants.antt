use Rattle.std.proofs.Common.{◌≡◌, ◌≤◌, length, take}
use Rattle.std.specs.Vec.{vec_capacity}
use Rattle.stack_walk_laws.specs.Sheets.{prints_of}
use Rattle.stack_core.proofs.start.footprints.Given as goal

abbrev pub invariant-loop-i : goal.invariant-loop-i
invariant-loop-i l = record {
  prints : l.prints.items ≡ take l.i (prints_of l.ops l.shifted);
  room : length l.ops ≤ vec_capacity l.prints;
}
