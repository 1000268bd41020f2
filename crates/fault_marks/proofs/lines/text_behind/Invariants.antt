use Rattle.std.proofs.Common.{◌≡◌, ◌≤◌, length}
use Rattle.fault_marks.specs.Words.{text_behind}
use Rattle.fault_marks.proofs.lines.text_behind.Given as goal

abbrev pub invariant-loop-left : goal.invariant-loop-left
invariant-loop-left l = record {
  behind : text_behind l.left l.rest ≡ text_behind l.lines l.text;
  short : length l.rest ≤ length l.text;
}

abbrev pub decreases-loop-left : goal.decreases-loop-left
decreases-loop-left l = l.left
