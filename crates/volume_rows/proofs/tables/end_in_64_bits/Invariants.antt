use Rattle.std.proofs.Common.{take, All}
use Rattle.volume_table.specs.Tables.{EndFits}
use Rattle.volume_rows.proofs.tables.end_in_64_bits.Given as goal

abbrev pub invariant-loop-device : goal.invariant-loop-device
invariant-loop-device l = All EndFits (take l.device-index l.devices)
