use Rattle.std.proofs.Common.{◌≡◌, drop}
use Rattle.fault_marks.specs.Marks.{word_at_fault}
use Rattle.fault_marks.proofs.marks.word_at_fault.Given as goal

abbrev pub invariant-loop-word : goal.invariant-loop-word
invariant-loop-word l = word_at_fault l.fault l.text l.begin (drop l.word-index l.words) ≡ word_at_fault l.fault l.text l.begin l.words
