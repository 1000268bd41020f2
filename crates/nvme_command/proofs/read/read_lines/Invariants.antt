use Rattle.std.proofs.Common.{◌≡◌, ◌+◌, ◌≤◌, [], length}
use Rattle.script_words.specs.Cuts.{lines_of}
use Rattle.nvme_command.specs.Texts.{lines_read}
use Rattle.nvme_command.proofs.read.read_lines.Given as goal

abbrev pub invariant-loop-first : goal.invariant-loop-first
invariant-loop-first l = record {
  answer : lines_read l.number (lines_of l.rest) l.lines.items ≡ lines_read 1 (lines_of l.text) [];
  few : l.number + length l.rest ≤ 4194305;
}

abbrev pub decreases-loop-first : goal.decreases-loop-first
decreases-loop-first l = length l.rest
