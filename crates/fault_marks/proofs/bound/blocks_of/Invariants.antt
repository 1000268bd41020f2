use Rattle.std.proofs.Common.{◌≡◌, ◌+◌, drop}
use Rattle.fault_marks.specs.Closer.{told_number}
use Rattle.volume_table.specs.Places.{volume_len}
use Rattle.fault_marks.proofs.bound.blocks_of.Given as goal

abbrev pub invariant-loop-entry : goal.invariant-loop-entry
invariant-loop-entry l = record {
  total : told_number (l.blocks + volume_len (drop l.entry-index l.entries)) ≡ told_number (volume_len l.entries);
  held : told_number l.blocks ≡ l.blocks;
}
