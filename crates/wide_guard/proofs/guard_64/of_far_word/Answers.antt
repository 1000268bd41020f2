use Rattle.wide_guard.specs.Registers.{rocksoft}
use Rattle.wide_guard.proofs.Linear.{far_word}
use Rattle.wide_guard.proofs.guard_64.of_far_word.Goals as goal

pub returns : goal.returns
returns c =
    far_word rocksoft c.args.word c.to_le_bytes-b.result c.table_entry-5.result c.table_entry-6.result c.table_entry-7.result c.table_entry-8.result c.table_entry.result c.table_entry-2.result c.table_entry-3.result c.table_entry-4.result c.ranges.word.fits
    c.to_le_bytes-b.ensures c.table_entry-5.ensures c.table_entry-6.ensures c.table_entry-7.ensures c.table_entry-8.ensures c.table_entry.ensures c.table_entry-2.ensures c.table_entry-3.ensures c.table_entry-4.ensures
