use Rattle.std.proofs.Common.{◌≡◌, ◌++◌, drop}
use Rattle.fault_marks.specs.Words.{spans_from, spans_of}
use Rattle.fault_marks.proofs.words.spans_of.Given as goal

abbrev pub invariant-loop-byte : goal.invariant-loop-byte
invariant-loop-byte l = record {
  at : l.at ≡ l.byte-index;
  words : l.words.items ++ spans_from l.begun l.at (drop l.byte-index l.line) ≡ spans_of l.line;
}
