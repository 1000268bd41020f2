use Rattle.wide_guard.proofs.Rows.{entry_64}
use Rattle.wide_guard.proofs.tables_64.table_entry.Goals as goal

pub returns : goal.returns
returns c = entry_64 c.args.zeros c.args.byte c.requires c.ranges.byte.fits
