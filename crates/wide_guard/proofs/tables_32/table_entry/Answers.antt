use Rattle.wide_guard.proofs.Rows.{entry_32}
use Rattle.wide_guard.proofs.tables_32.table_entry.Goals as goal

pub returns : goal.returns
returns c = entry_32 c.args.zeros c.args.byte c.requires c.ranges.byte.fits
