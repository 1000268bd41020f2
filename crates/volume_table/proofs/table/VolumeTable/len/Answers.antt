use Rattle.std.proofs.Common.{◌≤◌, length, All, arith}
use Rattle.volume_table.specs.Entries.{IsInRange}
use Rattle.volume_table.proofs.Sums.{one_fits}
use Rattle.volume_table.proofs.table.VolumeTable.len.Goals as goal

pub overflow_add-len : goal.overflow_add-len
overflow_add-len c =
    let made = c.self.invariant.made in
    let count : length c.as_slice-entry-items.result.now ≤ 16 = rw c.as_slice-entry-items.ensures made.count in
    let ranges : All IsInRange c.as_slice-entry-items.result.now = rw c.as_slice-entry-items.ensures made.ranges in
    let h = one_fits c.as_slice-entry-items.result.now c.loop-entry.entry-index _ _ c.entry-item.result count ranges c.loop-entry-test.true c.entry-item.is c.loop-entry.invariant c.len-len.ensures in
    omega (arith, h)
