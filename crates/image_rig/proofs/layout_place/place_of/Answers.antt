use Rattle.std.proofs.Common.{arith, get_or}
use Rattle.rig_api.specs.Telling.{no_spec}
use Rattle.image_rig.proofs.Heads.{bytes_more, bytes_small, layout_parts, spec_at}
use Rattle.image_rig.proofs.layout_place.place_of.Goals as goal

pub loop-i-preserved : goal.loop-i-preserved
loop-i-preserved c =
    let us = c.args.units.now in
    let more = bytes_more us c.loop-i.i no_spec (omega (arith, c.requires.device, c.loop-i-test.true)) in
    record {
      sum = omega (arith, more, c.unit_bytes-place.ensures.value, c.loop-i.invariant.sum);
      small = omega (arith, c.unit_bytes-place.ensures.bound, c.loop-i.invariant.small);
    }

pub returns-clause-bound : goal.returns-clause-bound
returns-clause-bound c =
    let us = c.args.units.now in
    let p = layout_parts us c.requires.layout in
    let few = p.1 in
    let b = bytes_small (get_or us c.args.dev no_spec) (spec_at us c.args.dev no_spec p.2 c.requires.device) in
    omega (arith, b, few, c.requires.device, c.loop-i.invariant.small, c.loop-i.auto)
