use Rattle.std.proofs.Common.{◌<◌, [], length, ◌∙◌, arith}
use Rattle.pi_scrub.proofs.Joining.{next_device, next_faults, no_faults, units_length}
use Rattle.std.proofs.lemmas.Result.{err_from_is_err_and}
use Rattle.pi_scrub.proofs.walk.scrub.Goals as goal
use Rattle.rig_api.proofs.State.{stays-on}
use Rattle.dix_base.proofs.Counts.{calm_first, calm_then}

pub returns-in_err-scrub_device-clause-part : goal.returns-in_err-scrub_device-clause-part
returns-in_err-scrub_device-clause-part g c =
    let p = err_from_is_err_and c.from_residual.result c.from_residual.ensures.1 in
    let within : c.loop-dev.dev < length c.args.devices.now = omega (arith, c.loop-dev-test.true, c.requires.devices.few) in
    let part = c.in_err-scrub_device.ensures.part in
    rw p.1 (_, next_device c.args.devices.now c.loop-dev.dev _ part.0 [] _ _ _ _ _ _ _ _ within c.loop-dev.invariant.stays.count c.scrub_device.ensures.stays.count c.loop-dev.invariant.looked part.1)

pub loop-dev-preserved : goal.loop-dev-preserved
loop-dev-preserved g c =
    let within : c.loop-dev.dev < length c.args.devices.now = omega (arith, c.loop-dev-test.true, c.requires.devices.few) in
    record {
      looked = next_device c.args.devices.now c.loop-dev.dev _ [] [] _ _ _ _ _ _ _ _ within c.loop-dev.invariant.stays.count c.scrub_device.ensures.stays.count c.loop-dev.invariant.looked c.in_ok-scrub_device.ensures.whole;
      told = λ us e calm.
          let len = units_length c.args.devices.now us (c.requires.devices.told us e) in
          next_faults us c.loop-dev.dev _ _ _ (omega (arith, len, within)) (c.loop-dev.invariant.told us e (calm_first _ _ _ c.scrub_device.ensures.stays.count calm))
          (c.in_ok-scrub_device.ensures.told us (c.loop-dev.invariant.units ∙ e) (calm_then _ _ _ c.loop-dev.invariant.stays.count calm));
      units = c.scrub_device.ensures.units ∙ c.loop-dev.invariant.units;
      stays = stays-on c.loop-dev.invariant.stays c.scrub_device.ensures.stays;
    }

pub returns-clause-told : goal.returns-clause-told
returns-clause-told g c = λ us e calm.
    let len = units_length c.args.devices.now us (c.requires.devices.told us e) in
    no_faults us c.loop-dev.dev _ _ (omega (arith, len, c.loop-dev-test.false, c.requires.devices.few)) (c.loop-dev.invariant.told us e calm)
