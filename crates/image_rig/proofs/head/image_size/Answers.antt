use Rattle.std.proofs.Common.{arith}
use Rattle.rig_api.specs.Telling.{no_spec}
use Rattle.image_rig.proofs.Heads.{bytes_more}
use Rattle.image_rig.proofs.head.image_size.Goals as goal

pub loop-unit-preserved : goal.loop-unit-preserved
loop-unit-preserved c =
    let more = bytes_more c.args.units.now c.loop-unit.unit-index no_spec c.loop-unit-test.true in
    record {
      sum = omega (arith, more, c.unit_bytes-size.ensures.value, c.loop-unit.invariant.sum);
      small = omega (arith, c.unit_bytes-size.ensures.bound, c.loop-unit.invariant.small);
    }
