use Rattle.std.proofs.Common.{◌≡◌, length, drop}
use Rattle.call_verdict.specs.Words.{units_in, word_bytes}
use Rattle.call_verdict.proofs.WordLemmas.{joined}
use Rattle.call_verdict.proofs.words.units_of.Given as goal

abbrev pub invariant-loop-word : goal.invariant-loop-word
invariant-loop-word l = record {
  few : length l.units.items ≡ l.word-index;
  units : joined l.units.items (units_in (word_bytes (drop l.word-index l.words))) ≡ units_in (word_bytes l.words);
}
