use Rattle.std.proofs.Common.{◌≡◌, ◌+◌, ◌≤◌, length}
use Rattle.script_words.specs.Cuts.{lines_of}
use Rattle.script_text.specs.Drafts.{drafted}
use Rattle.script_text.specs.Language.{lines_read, nothing_read}
use Rattle.script_text.proofs.read.read_script.Given as goal

abbrev pub invariant-loop-first : goal.invariant-loop-first
invariant-loop-first l = record {
  answer : lines_read l.line (lines_of l.rest) (drafted l.draft) ≡ lines_read 1 (lines_of l.text) nothing_read;
  few : l.line + length l.rest ≤ 4194305;
}

abbrev pub decreases-loop-first : goal.decreases-loop-first
decreases-loop-first l = length l.rest
