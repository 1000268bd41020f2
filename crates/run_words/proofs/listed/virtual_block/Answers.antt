use Rattle.std.proofs.Common.{ap, arith, sum_by}
use Rattle.volume_table.proofs.Sums.{few}
use Rattle.volume_table.specs.Entries.{entry_len}
use Rattle.run_words.proofs.listed.virtual_block.Goals as goal

pub overflow_add-result : goal.overflow_add-result
overflow_add-result c =
    let t = c.requires.table in
    let most = few t.0.entries t.2.made.ranges in
    let count = t.2.made.count in
    let same = ap (sum_by entry_len) t.1 in
    omega (arith, most, count, same, c.requires.inside)
