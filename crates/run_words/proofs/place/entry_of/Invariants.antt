use Rattle.std.proofs.Common.{◌≡◌, length}
use Rattle.volume_table.specs.Places.{holder}
use Rattle.run_words.proofs.place.entry_of.Given as goal

abbrev pub invariant-loop-entry : goal.invariant-loop-entry
invariant-loop-entry l = holder l.rest l.v ≡ holder l.entries l.v

abbrev pub decreases-loop-entry : goal.decreases-loop-entry
decreases-loop-entry l = length l.rest
