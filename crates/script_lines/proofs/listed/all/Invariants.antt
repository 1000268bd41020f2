use Rattle.std.proofs.Common.{◌≡◌, length}
use Rattle.script_lines.specs.Reading.{all_of}
use Rattle.script_lines.proofs.Gathering.{after}
use Rattle.script_lines.proofs.listed.all.Given as goal

abbrev pub invariant-loop-word : goal.invariant-loop-word
invariant-loop-word g l = after l.found.items (all_of g.T.Listed.reads l.words) ≡ all_of g.T.Listed.reads l.initial.words

abbrev pub decreases-loop-word : goal.decreases-loop-word
decreases-loop-word g l = length l.words
