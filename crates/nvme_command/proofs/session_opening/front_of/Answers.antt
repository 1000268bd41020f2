use Rattle.std.proofs.Common.{ap, ◌∙◌, arith}
use Rattle.std.specs.Prelude.{is_some}
use Rattle.std.specs.List.{list_all}
use Rattle.std.proofs.lemmas.Result.{err_from_is_err_and}
use Rattle.rig_api.specs.Telling.{Standing}
use Rattle.rig_api.specs.State.{RigState}
use Rattle.nvme_front.specs.Refusals.{has_size}
use Rattle.rig_discovery.proofs.Devices.{devices_are, few_units, silent}
use Rattle.nvme_command.proofs.Sizes.{for-front, sizes-found}
use Rattle.nvme_command.proofs.session_opening.front_of.Goals as goal

pub discover-requires-clause-few : goal.discover-requires-clause-few
discover-requires-clause-few g c =
    let few = few_units _ c.requires.right in
    let same = ap (λ (s : Standing). s.devices) (ap (λ (s : RigState). s.standing) c.reserve.ensures.keeps) in
    omega (arith, few, same, c.requires.devices)

pub new-requires-clause-sizes : goal.new-requires-clause-sizes
new-requires-clause-sizes g c =
    let found = rw (ap (λ (s : RigState). s.standing) c.reserve.ensures.keeps) at c.in_ok-devices.ensures.found in
    ap (list_all has_size) c.deref.ensures.0 ∙ sizes-found (g.R.Rig.state c.args.rig.now).standing c.in_ok-devices.devices.items _ _ c.requires.right c.requires.devices found

pub returns-in_err-devices-clause-cause : goal.returns-in_err-devices-clause-cause
returns-in_err-devices-clause-cause g c =
    let same = ap (λ (s : RigState). s.units) c.reserve.ensures.keeps in
    let p = err_from_is_err_and c.from_residual-in_err-devices.result c.from_residual-in_err-devices.ensures.1 in
    rw (p.1, p.2) (rw (ap (λ (s : RigState). s.standing) c.reserve.ensures.keeps, ap (λ (s : RigState). s.log) c.reserve.ensures.keeps) at c.in_err-devices.ensures.fault, silent _ (λ t. absurd (c.in_err-devices.ensures.told (ap is_some same ∙ t))))

pub returns-in_err-devices-clause-units : goal.returns-in_err-devices-clause-units
returns-in_err-devices-clause-units g c = c.discover.ensures.units ∙ ap (λ (s : RigState). s.units) c.reserve.ensures.keeps

pub returns-clause-devices : goal.returns-clause-devices
returns-clause-devices g c =
    let few = few_units _ c.requires.right in
    let same = ap (λ (s : Standing). s.devices) (ap (λ (s : RigState). s.standing) c.reserve.ensures.keeps) in
    for-front _ _ _ _ (c.in_ok-new.ensures ∙ c.deref.ensures.0)
    (devices_are _ _ c.in_ok-devices.devices.items _ _ _ c.in_ok-devices.ensures.found (omega (arith, few, same, c.requires.devices)) c.in_ok-devices.ensures.ends c.discover.ensures.stays.standing c.discover.ensures.units
    (g.met.R.Rig.laid c.reserve.new.self) c.in_ok-devices.ensures.told)
