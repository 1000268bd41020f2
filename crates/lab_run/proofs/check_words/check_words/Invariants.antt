use Rattle.std.proofs.Common.{◌≡◌, Some, length}
use Rattle.call_verdict.specs.Words.{word_bytes}
use Rattle.lab_run.specs.CheckWords.{check_words_in, plain_words}
use Rattle.lab_run.proofs.check_words.check_words.Given as goal

abbrev pub invariant-loop-flag : goal.invariant-loop-flag
invariant-loop-flag l = check_words_in (word_bytes l.rest) (Some l.said) ≡ check_words_in (word_bytes l.words) (Some plain_words)

abbrev pub decreases-loop-flag : goal.decreases-loop-flag
decreases-loop-flag l = length l.rest
