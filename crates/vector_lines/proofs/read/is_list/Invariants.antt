use Rattle.std.proofs.Common.{◌≡◌, length}
use Rattle.script_words.specs.Cuts.{lines_of}
use Rattle.vector_lines.specs.Texts.{is_list}
use Rattle.vector_lines.proofs.read.is_list.Given as goal

abbrev pub invariant-loop-line : goal.invariant-loop-line
invariant-loop-line l = is_list (lines_of l.rest) ≡ is_list (lines_of l.text)

abbrev pub decreases-loop-line : goal.decreases-loop-line
decreases-loop-line l = length l.rest
