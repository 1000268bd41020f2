use Rattle.std.proofs.Common.{◌≡◌, ◌≤◌, length, refl, ap, ◌∙◌, arith}
use Rattle.rig_api.specs.Telling.{unit_at}
use Rattle.rig_api.proofs.State.{stays-on, stays-still}
use Rattle.volume_table.specs.declared.device.DeviceInfo.{DeviceInfo}
use Rattle.pi_scrub.specs.Looks.{info_at}
use Rattle.pi_scrub.proofs.Joining.{device_is, did_bound, end_of, looked_none, looked_then, one_look, rest_at_end, rest_at_first, told_step}
use Rattle.pi_scrub.proofs.walk.scrub_device.Goals as goal

pub loop-left-init : goal.loop-left-init
loop-left-init g c = record {
  span = refl;
  above = omega arith;
  looked = looked_none _ _ _ _ _ _ (omega arith);
  told = λ us e calm. rest_at_first _ c.args.dev (unit_at us c.args.dev) _ (ap (λ (i : DeviceInfo). i.first) (device_is c.args.devices.now us c.args.dev (c.requires.devices.told us e) c.requires.device));
  units = refl;
  stays = stays-still _;
}

pub look-requires-clause-end : goal.look-requires-clause-end
look-requires-clause-end g c =
    let end = end_of c.args.devices.now c.args.dev c.requires.devices.ends c.requires.device in
    omega (arith, end, c.loop-left.invariant.span, c.min-n.ensures)

pub overflow_add-lba : goal.overflow_add-lba
overflow_add-lba g c =
    let end = end_of c.args.devices.now c.args.dev c.requires.devices.ends c.requires.device in
    let bound = did_bound _ _ _ _ _ _ _ _ _ _ _ _ c.in_ok-settled.ensures.did (omega (arith, c.min-n.ensures, c.loop-left-test.true)) in
    omega (arith, end, c.loop-left.invariant.span, c.min-n.ensures, bound.1)

pub loop-left-preserved : goal.loop-left-preserved
loop-left-preserved g c =
    let some : 1 ≤ c.min-n.result = omega (arith, c.min-n.ensures, c.loop-left-test.true) in
    let most : c.min-n.result ≤ 1024 = omega (arith, c.min-n.ensures) in
    let within : c.min-n.result ≤ c.loop-left.left = omega (arith, c.min-n.ensures) in
    let bound = did_bound _ _ _ _ _ _ _ _ _ _ _ _ c.in_ok-settled.ensures.did some in
    record {
      span = omega (arith, c.loop-left.invariant.span, bound.1, within);
      above = omega (arith, c.loop-left.invariant.above);
      looked = looked_then c.args.devices.now _ _ _ _ _ _ _ _ _ _ _ _ c.loop-left.invariant.stays.count c.look.ensures.stays.count c.loop-left.invariant.looked
          (one_look c.args.devices.now c.args.dev _ c.loop-left.lba c.min-n.result c.in_ok-settled.field-0 c.loop-left.left _ _ _ _ _ _ _ c.look.ensures.stays.count some most refl within c.in_ok-settled.ensures.did);
      told = λ us e calm.
          told_step c.args.devices.now us _ c.args.dev c.loop-left.lba c.min-n.result c.in_ok-settled.field-0 c.loop-left.left _ _ _ _ _ _ _ _ _ (device_is c.args.devices.now us c.args.dev (c.requires.devices.told us e) c.requires.device) refl
          c.loop-left.invariant.above c.loop-left.invariant.span within c.loop-left.invariant.stays.count c.look.ensures.stays.count (c.loop-left.invariant.units ∙ e) calm (λ first. c.loop-left.invariant.told us e first) c.in_ok-settled.ensures.did;
      units = c.look.ensures.units ∙ c.loop-left.invariant.units;
      stays = stays-on c.loop-left.invariant.stays c.look.ensures.stays;
    }

pub returns-clause-told : goal.returns-clause-told
returns-clause-told g c = λ us e calm.
    let info = device_is c.args.devices.now us c.args.dev (c.requires.devices.told us e) c.requires.device in
    let first : (info_at c.args.devices.now c.args.dev).first ≡ (unit_at us c.args.dev).first = ap (λ (i : DeviceInfo). i.first) info in
    let blocks : (info_at c.args.devices.now c.args.dev).blocks ≡ length (unit_at us c.args.dev).blocks = ap (λ (i : DeviceInfo). i.blocks) info in
    rest_at_end _ _ c.args.dev (unit_at us c.args.dev) c.loop-left.lba (omega (arith, first, blocks, c.loop-left.invariant.span, c.loop-left-test.false)) (c.loop-left.invariant.told us e calm)
