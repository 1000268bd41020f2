use Rattle.std.proofs.Common.{rules}
use Rattle.std.proofs.lemmas.List.Elements.{All-more}
use Rattle.volume_table.specs.Tables.{EndFits}
use Rattle.volume_table.proofs.Sums.{all_of}
use Rattle.volume_rows.proofs.tables.end_in_64_bits.Goals as goal

pub loop-device-preserved : goal.loop-device-preserved
loop-device-preserved c =
    All-more EndFits c.args.devices.now c.loop-device.device-index _ c.loop-device-test.true c.loop-device.invariant (c.ends_in_64_bits.ensures (search rules))

pub returns : goal.returns
returns c t = all_of EndFits c.args.devices.now c.loop-device.device-index c.loop-device-test.false c.loop-device.invariant
