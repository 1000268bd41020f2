use Rattle.std.proofs.Common.{◌∙◌, ap, arith}
use Rattle.std.proofs.lemmas.List.{take_all}
use Rattle.rig_api.specs.Telling.{greatest, no_spec}
use Rattle.image_rig.proofs.Devices.{greatest_more}
use Rattle.image_rig.proofs.place.greatest_size.Goals as goal

pub loop-unit-preserved : goal.loop-unit-preserved
loop-unit-preserved c =
    let more = greatest_more c.args.units.now c.loop-unit.unit-index no_spec c.loop-unit-test.true in
    record { most = omega (arith, more, c.loop-unit.invariant.most) }

pub returns : goal.returns
returns c = c.loop-unit.invariant.most ∙ ap greatest (take_all c.loop-unit.unit-index c.args.units.now c.loop-unit-test.false)
