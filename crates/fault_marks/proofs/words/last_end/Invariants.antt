use Rattle.std.proofs.Common.{◌≡◌, drop}
use Rattle.fault_marks.specs.Marks.{last_end, last_end_from}
use Rattle.fault_marks.proofs.words.last_end.Given as goal

abbrev pub invariant-loop-word : goal.invariant-loop-word
invariant-loop-word l = last_end_from l.end (drop l.word-index l.words) ≡ last_end l.words
