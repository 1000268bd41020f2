use Rattle.std.proofs.Common.{ap, ◌∙◌, arith}
use Rattle.std.specs.Prelude.{is_some}
use Rattle.std.proofs.lemmas.Result.{err_from_is_err_and}
use Rattle.rig_api.specs.Telling.{Standing}
use Rattle.rig_api.specs.State.{RigState}
use Rattle.rig_discovery.proofs.Passed.{answers_from}
use Rattle.rig_discovery.proofs.Devices.{devices_are, few_units, silent}
use Rattle.rig_discovery.proofs.Opens.{kept_by, opened, unopened}
use Rattle.rig_discovery.proofs.Bytes.{image_kept, some_unit}
use Rattle.rig_discovery.proofs.opening.told_devices.Goals as goal

pub discover-requires-clause-few : goal.discover-requires-clause-few
discover-requires-clause-few g c =
    let few = few_units _ c.in_ok-open.ensures.judged.judged in
    let same = ap (λ (s : Standing). s.devices) (ap (λ (s : RigState). s.standing) c.reserve.ensures.keeps) in
    omega (arith, few, same, c.in_ok-open.ensures.devices)

pub returns-clause-told : goal.returns-clause-told
returns-clause-told g c =
    let few = few_units _ c.in_ok-open.ensures.judged.judged in
    let same = ap (λ (s : Standing). s.devices) (ap (λ (s : RigState). s.standing) c.reserve.ensures.keeps) in
    record {
      between = g.R.Rig.state c.open.new.self;
      since = record {
        opened = opened _ _ _ _ c.in_ok-open.ensures.judged c.in_ok-open.ensures.opened c.open.ensures.image;
        kept = kept_by _ _ c.open.ensures.image c.open.ensures.keeps;
        laid = g.met.R.Rig.laid c.open.new.self;
        image = image_kept (g.R.Rig.state c.reserve.new.self).standing (g.R.Rig.state c.discover.new.rig).standing (g.R.Rig.state c.reserve.new.self).image (g.R.Rig.state c.discover.new.rig).image (g.R.Rig.state c.reserve.new.self).units (g.R.Rig.state c.discover.new.rig).units c.discover.ensures.stays.standing
            (let some = some_unit _ c.in_ok-open.ensures.judged.judged in let stood = ap (λ (s : Standing). s.devices) (ap (λ (s : RigState). s.standing) c.reserve.ensures.keeps) in omega (arith, some, stood, c.in_ok-open.ensures.devices))
            (g.met.R.Rig.ready c.reserve.new.self) (g.met.R.Rig.ready c.discover.new.rig) (g.met.R.Rig.laid c.reserve.new.self) (g.met.R.Rig.laid c.discover.new.rig) c.discover.ensures.units c.discover.ensures.stays.tells ∙ ap (λ (s : RigState). s.image) c.reserve.ensures.keeps;
        units = c.discover.ensures.units ∙ ap (λ (s : RigState). s.units) c.reserve.ensures.keeps;
        standing = c.discover.ensures.stays.standing ∙ ap (λ (s : RigState). s.standing) c.reserve.ensures.keeps;
        count = omega (arith, c.discover.ensures.stays.count, ap (λ (s : RigState). s.faults) c.reserve.ensures.keeps);
      };
      armed = c.discover.ensures.stays.armed ∙ ap (λ (s : RigState). s.armed) c.reserve.ensures.keeps ∙ c.open.ensures.keeps.armed;
      found = rw (ap (λ (s : RigState). s.standing) c.reserve.ensures.keeps, ap (λ (s : RigState). s.log) c.reserve.ensures.keeps) at c.in_ok-discover.ensures.found;
      devices_are = devices_are _ _ c.in_ok-discover.field-0.items _ _ _ c.in_ok-discover.ensures.found (omega (arith, few, same, c.in_ok-open.ensures.devices)) c.in_ok-discover.ensures.ends c.discover.ensures.stays.standing c.discover.ensures.units
          (g.met.R.Rig.laid c.reserve.new.self) c.in_ok-discover.ensures.told;
      answered = λ us e. answers_from us _ _ _ _ c.reserve.ensures.keeps (c.discover.ensures.answered us (ap (λ (s : RigState). s.units) c.reserve.ensures.keeps ∙ e));
    }

pub returns-in_err-discover-clause-told : goal.returns-in_err-discover-clause-told
returns-in_err-discover-clause-told g c =
    let p = err_from_is_err_and c.from_residual-in_err-discover.result c.from_residual-in_err-discover.ensures.1 in
    rw (p.1, p.2) (record {
      between = g.R.Rig.state c.open.new.self;
      since = record {
        opened = opened _ _ _ _ c.in_ok-open.ensures.judged c.in_ok-open.ensures.opened c.open.ensures.image;
        kept = kept_by _ _ c.open.ensures.image c.open.ensures.keeps;
        laid = g.met.R.Rig.laid c.open.new.self;
        image = image_kept (g.R.Rig.state c.reserve.new.self).standing (g.R.Rig.state c.discover.new.rig).standing (g.R.Rig.state c.reserve.new.self).image (g.R.Rig.state c.discover.new.rig).image (g.R.Rig.state c.reserve.new.self).units (g.R.Rig.state c.discover.new.rig).units c.discover.ensures.stays.standing
            (let some = some_unit _ c.in_ok-open.ensures.judged.judged in let stood = ap (λ (s : Standing). s.devices) (ap (λ (s : RigState). s.standing) c.reserve.ensures.keeps) in omega (arith, some, stood, c.in_ok-open.ensures.devices))
            (g.met.R.Rig.ready c.reserve.new.self) (g.met.R.Rig.ready c.discover.new.rig) (g.met.R.Rig.laid c.reserve.new.self) (g.met.R.Rig.laid c.discover.new.rig) c.discover.ensures.units c.discover.ensures.stays.tells ∙ ap (λ (s : RigState). s.image) c.reserve.ensures.keeps;
        units = c.discover.ensures.units ∙ ap (λ (s : RigState). s.units) c.reserve.ensures.keeps;
        standing = c.discover.ensures.stays.standing ∙ ap (λ (s : RigState). s.standing) c.reserve.ensures.keeps;
        count = omega (arith, c.discover.ensures.stays.count, ap (λ (s : RigState). s.faults) c.reserve.ensures.keeps);
      };
      armed = c.discover.ensures.stays.armed ∙ ap (λ (s : RigState). s.armed) c.reserve.ensures.keeps ∙ c.open.ensures.keeps.armed;
      fault = rw (ap (λ (s : RigState). s.standing) c.reserve.ensures.keeps, ap (λ (s : RigState). s.log) c.reserve.ensures.keeps) at c.in_err-discover.ensures.fault;
      untold = silent _ (λ t. absurd (c.in_err-discover.ensures.told (ap is_some (ap (λ (s : RigState). s.units) c.reserve.ensures.keeps) ∙ t)));
    })

pub returns-in_err-open-clause-told : goal.returns-in_err-open-clause-told
returns-in_err-open-clause-told g c =
    let p = err_from_is_err_and c.from_residual.result c.from_residual.ensures.1 in
    rw (p.1, p.2) (unopened c.in_err-open.field-0.0 c.args.name.now _ _ c.in_err-open.ensures.judged c.in_err-open.ensures.opened c.open.ensures.opening c.open.ensures.image c.open.ensures.keeps)
