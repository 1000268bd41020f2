use Rattle.std.proofs.Common.{take, All}
use Rattle.volume_table.specs.Entries.{IsInRange}
use Rattle.volume_rows.proofs.tables.are_in_range.Given as goal

abbrev pub invariant-loop-entry : goal.invariant-loop-entry
invariant-loop-entry l = All IsInRange (take l.entry-index l.entries)
