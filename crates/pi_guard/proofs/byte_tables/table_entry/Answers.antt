use Rattle.pi_guard.proofs.Rows.{table_entry}
use Rattle.pi_guard.proofs.byte_tables.table_entry.Goals as goal

pub returns : goal.returns
returns c = table_entry c.args.zeros c.args.byte c.requires c.ranges.byte.fits
