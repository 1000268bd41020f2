use Rattle.std.proofs.Common.{◌≡◌, length}
use Rattle.volume_table.specs.Places.{holder}
use Rattle.volume_table.proofs.table.VolumeTable.entry_of.Given as goal

abbrev pub invariant-loop-entry : goal.invariant-loop-entry
invariant-loop-entry l = holder l.rest l.v ≡ holder l.self.entries l.v

abbrev pub decreases-loop-entry : goal.decreases-loop-entry
decreases-loop-entry l = length l.rest
