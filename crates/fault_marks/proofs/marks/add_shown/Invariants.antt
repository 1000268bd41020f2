use Rattle.std.proofs.Common.{◌≡◌, ◌++◌, map, drop}
use Rattle.fault_marks.specs.Marks.{shown_byte}
use Rattle.fault_marks.proofs.marks.add_shown.Given as goal

abbrev pub invariant-loop-byte : goal.invariant-loop-byte
invariant-loop-byte l = l.out.items ++ map shown_byte (drop l.byte-index l.line) ≡ l.initial.out.items ++ map shown_byte l.line
