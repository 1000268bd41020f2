use Rattle.std.proofs.Common.{◌≡◌, ◌++◌, take}
use Rattle.std.specs.Prelude.{codes}
use Rattle.dix_run.specs.ScrubText.{found_lines}
use Rattle.dix_run.proofs.scrub_text.scrub_text.Given as goal

abbrev pub invariant-loop-one : goal.invariant-loop-one
invariant-loop-one l = l.text.items ≡ codes "dix scrub 1\n" ++ found_lines (take l.one-index l.found)
