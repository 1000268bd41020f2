use Rattle.std.proofs.Common.{◌≡◌, length}
use Rattle.script_words.specs.Cuts.{lines_of}
use Rattle.fault_marks.specs.Closer.{says}
use Rattle.fault_marks.proofs.order.says.Given as goal

abbrev pub invariant-loop-line : goal.invariant-loop-line
invariant-loop-line l = says l.version (lines_of l.rest) ≡ says l.version (lines_of l.text)

abbrev pub decreases-loop-line : goal.decreases-loop-line
decreases-loop-line l = length l.rest
