use Rattle.std.proofs.Common.{◌≡◌, ◌≤◌, length}
use Rattle.script_words.specs.Cuts.{words_of}
use Rattle.script_words.proofs.cuts.next_word.Given as goal

abbrev pub invariant-loop-word : goal.invariant-loop-word
invariant-loop-word l = record {
  words : words_of l.rest ≡ words_of l.line;
  short : length l.rest ≤ length l.line;
}

abbrev pub decreases-loop-word : goal.decreases-loop-word
decreases-loop-word l = length l.rest
