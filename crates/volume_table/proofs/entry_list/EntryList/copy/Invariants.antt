use Rattle.std.proofs.Common.{◌≡◌, take}
use Rattle.volume_table.proofs.entry_list.EntryList.copy.Given as goal

abbrev pub invariant-loop-entry : goal.invariant-loop-entry
invariant-loop-entry l = l.held.items ≡ take l.entry-index l.entries
