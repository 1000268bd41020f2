use Rattle.std.proofs.Common.{◌∙◌, arith, ap}
use Rattle.std.proofs.lemmas.Result.{err_from_is_err_and}
use Rattle.rig_discovery.proofs.Bytes.{image_kept, some_unit}
use Rattle.nvme_command.proofs.Opening.{closed_by}
use Rattle.nvme_command.proofs.doing.open.Goals as goal
use Rattle.rig_api.specs.State.{RigState}

pub returns-clause-told : goal.returns-clause-told
returns-clause-told g c =
    let same = ap (λ (s : RigState). s.units) c.arm.ensures in
    record {
      asked = record {
        between = g.R.Rig.state c.open_image.new.rig;
        since = record {
          opened = c.in_ok-open_image.ensures.opened;
          kept = c.in_ok-open_image.ensures.kept;
          laid = g.met.R.Rig.laid c.open_image.new.rig;
          image = ap (λ (s : RigState). s.image) c.arm.ensures
              ∙ image_kept (g.R.Rig.state c.open_image.new.rig).standing (g.R.Rig.state c.front_of.new.rig).standing (g.R.Rig.state c.open_image.new.rig).image (g.R.Rig.state c.front_of.new.rig).image (g.R.Rig.state c.open_image.new.rig).units (g.R.Rig.state c.front_of.new.rig).units c.front_of.ensures.stays.standing
              (let some = some_unit _ c.in_ok-open_image.ensures.opened.judged in omega (arith, some, c.in_ok-open_image.ensures.devices))
              (g.met.R.Rig.ready c.open_image.new.rig) (g.met.R.Rig.ready c.front_of.new.rig) (g.met.R.Rig.laid c.open_image.new.rig) (g.met.R.Rig.laid c.front_of.new.rig) c.front_of.ensures.units c.front_of.ensures.stays.tells;
          units = same ∙ c.front_of.ensures.units;
          standing = ap (λ (s : RigState). s.standing) c.arm.ensures ∙ c.front_of.ensures.stays.standing;
          count = omega (arith, c.front_of.ensures.stays.count, ap (λ (s : RigState). s.faults) c.arm.ensures);
        };
        counted = c.in_ok-open_image.ensures.devices;
        found = rw (ap (λ (s : RigState). s.log) c.arm.ensures) c.in_ok-front.ensures.found;
      };
      armed = ap (λ (s : RigState). s.armed) c.arm.ensures ∙ c.from_vec.ensures ∙ c.new.ensures.items;
      devices_are = rw (ap (λ (s : RigState). s.standing) c.arm.ensures, same) c.in_ok-front.ensures.devices;
    }

pub returns-in_err-front-clause-told : goal.returns-in_err-front-clause-told
returns-in_err-front-clause-told g c =
    let p = err_from_is_err_and c.from_residual-in_err-front.result c.from_residual-in_err-front.ensures.1 in
    rw (p.1, p.2) (closed_by c.in_err-front.field-0.0 _ _ (g.R.Rig.state c.open_image.new.rig) _
    (record {
      opened = c.in_ok-open_image.ensures.opened;
      kept = c.in_ok-open_image.ensures.kept;
      laid = g.met.R.Rig.laid c.open_image.new.rig;
      image = image_kept (g.R.Rig.state c.open_image.new.rig).standing (g.R.Rig.state c.front_of.new.rig).standing (g.R.Rig.state c.open_image.new.rig).image (g.R.Rig.state c.front_of.new.rig).image (g.R.Rig.state c.open_image.new.rig).units (g.R.Rig.state c.front_of.new.rig).units c.front_of.ensures.stays.standing
          (let some = some_unit _ c.in_ok-open_image.ensures.opened.judged in omega (arith, some, c.in_ok-open_image.ensures.devices))
          (g.met.R.Rig.ready c.open_image.new.rig) (g.met.R.Rig.ready c.front_of.new.rig) (g.met.R.Rig.laid c.open_image.new.rig) (g.met.R.Rig.laid c.front_of.new.rig) c.front_of.ensures.units c.front_of.ensures.stays.tells;
      units = c.front_of.ensures.units;
      standing = c.front_of.ensures.stays.standing;
      count = c.front_of.ensures.stays.count;
    })
    c.in_ok-open_image.ensures.devices
    c.front_of.ensures.stays.armed
    c.in_err-front.ensures.cause)
