use Rattle.std.proofs.Common.{length, ap, ◌∙◌}
use Rattle.image_rig.proofs.Told.{becomes_map, ok_map}
use Rattle.image_rig.proofs.Migrates.{header_long, kept_behind, over_header}
use Rattle.image_rig.proofs.migrating.write_header.Goals as goal

pub returns-clause-written : goal.returns-clause-written
returns-clause-written g c = ok_map c.write_at.result _ _
    (becomes_map _ _ (λ was is o. over_header c.args.units.now _ was is c.requires.few (c.deref.ensures.0 ∙ c.header.ensures) o) (g.S.Store.state c.args.store.now).bytes (g.S.Store.state c.write_at.new.self).bytes)
    c.write_at.ensures.written

pub returns-clause-blocks : goal.returns-clause-blocks
returns-clause-blocks g c =
    becomes_map _ _ (λ was is a. kept_behind _ was is (ap length (c.deref.ensures.0 ∙ c.header.ensures) ∙ header_long c.args.units.now c.requires.few) a) (g.S.Store.state c.args.store.now).bytes (g.S.Store.state c.write_at.new.self).bytes c.write_at.ensures.apart
