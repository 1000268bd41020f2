use Rattle.std.proofs.Common.{◌≡◌, None}
use Rattle.volume_table.specs.Faults.{table_fault}
use Rattle.volume_table.proofs.Laws.{made, no_fault}
use Rattle.volume_table.proofs.table.VolumeTable.new.Goals as goal

pub invariant_of-result : goal.invariant_of-result
invariant_of-result c =
    let right : table_fault c.args.entries.now c.args.devices.now c.args.size ≡ None = no_fault _ _ _ _ c.as_slice-list.ensures c.first_fault.ensures c.in_default.not-Some in
    record {
      devices = c.args.devices.now;
      size = c.args.size;
      made = rw (c.in-Ok.ensures, c.volume_type-kind.ensures, c.as_slice-list.ensures) (made c.args.entries.now c.args.devices.now c.args.size c.requires.count c.requires.ranges c.requires.ends right);
    }

pub returns-in-Ok-clause-made : goal.returns-in-Ok-clause-made
returns-in-Ok-clause-made c =
    let right : table_fault c.args.entries.now c.args.devices.now c.args.size ≡ None = no_fault _ _ _ _ c.as_slice-list.ensures c.first_fault.ensures c.in_default.not-Some in
    rw (c.in-Ok.ensures, c.volume_type-kind.ensures, c.as_slice-list.ensures) (made c.args.entries.now c.args.devices.now c.args.size c.requires.count c.requires.ranges c.requires.ends right)
