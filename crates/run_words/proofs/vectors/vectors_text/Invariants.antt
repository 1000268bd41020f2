use Rattle.std.proofs.Common.{◌≡◌, ◌++◌, drop}
use Rattle.run_words.specs.Vectors.{all_words, vectors_text}
use Rattle.run_words.proofs.vectors.vectors_text.Given as goal

abbrev pub invariant-loop-line : goal.invariant-loop-line
invariant-loop-line l = l.out.items ++ all_words (drop l.line-index l.lines) ≡ vectors_text l.lines
