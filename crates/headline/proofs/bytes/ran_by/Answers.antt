use Rattle.std.proofs.Common.{refl}
use Rattle.std.specs.Prelude.{Some}
use Rattle.image_rig.specs.Heads.{head_in}
use Rattle.image_rig.specs.Told.{laid_of, ready_of}
use Rattle.headline.proofs.bytes.ran_by.Goals as goal

pub returns-clause-told : goal.returns-clause-told
returns-clause-told c =
    let r = c.args.rig.now in
    record {
      laid = laid_of _ (head_in r.head) r.store.handed r.store.openings (Some r.store.bytes);
      stands = ready_of _ (head_in r.head) r.store.handed r.store.openings (Some r.store.bytes) r.units.items r.right r.devices r.told refl;
      calm = refl;
    }
