use Rattle.std.proofs.Common.{◌≡◌, sum_by, take}
use Rattle.volume_table.specs.Entries.{entry_len}
use Rattle.volume_table.proofs.table.VolumeTable.len.Given as goal

abbrev pub invariant-loop-entry : goal.invariant-loop-entry
invariant-loop-entry l = l.len ≡ sum_by entry_len (take l.entry-index l.entry-items)
