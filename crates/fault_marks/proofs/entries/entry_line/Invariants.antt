use Rattle.std.proofs.Common.{◌≡◌, ◌+◌, ◌≤◌, length}
use Rattle.script_words.specs.Cuts.{lines_of}
use Rattle.fault_marks.specs.Entries.{entry_from}
use Rattle.fault_marks.specs.Words.{text_behind}
use Rattle.fault_marks.proofs.entries.entry_line.Given as goal

abbrev pub invariant-loop-line : goal.invariant-loop-line
invariant-loop-line l = record {
  answer : entry_from l.text l.entry l.before (lines_of l.rest) ≡ entry_from l.text l.entry 0 (lines_of l.text);
  behind : l.rest ≡ text_behind l.before l.text;
  few : l.before + length l.rest ≤ length l.text;
}

abbrev pub decreases-loop-line : goal.decreases-loop-line
decreases-loop-line l = length l.rest
