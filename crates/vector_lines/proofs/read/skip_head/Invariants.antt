use Rattle.std.proofs.Common.{◌≡◌, ◌+◌, ◌≤◌, length}
use Rattle.script_words.specs.Cuts.{lines_of}
use Rattle.vector_lines.specs.Texts.{head_read}
use Rattle.vector_lines.proofs.read.skip_head.Given as goal

abbrev pub invariant-loop-line : goal.invariant-loop-line
invariant-loop-line l = record {
  answer : head_read l.number (lines_of l.rest) ≡ head_read 1 (lines_of l.text);
  few : l.number + length l.rest ≤ 4194305;
}

abbrev pub decreases-loop-line : goal.decreases-loop-line
decreases-loop-line l = length l.rest
