use Rattle.std.proofs.Common.{length, arith, inl, ◌∙◌}
use Rattle.rig_api.specs.declared.request.Request.TheVariants.{Read}
use Rattle.target_model.proofs.Bytes.{told_length}
use Rattle.target_model.proofs.Composing.{can_move, keyed, not_medium, refused_by, read_as}
use Rattle.target_model.proofs.serving.read.Goals as goal

pub read_blocks-requires-clause-can : goal.read_blocks-requires-clause-can
read_blocks-requires-clause-can g c = can_move c.args.unit.now c.shape-shape.result c.args.c c.in-Ok.lba c.in-Ok.from c.place_of-place.result _ c.shape-shape.ensures c.requires.unit c.in-Ok.ensures.frame c.in-Ok.ensures.inside c.in-Ok.ensures.there c.place_of-place.ensures

pub returns-in-Err-clause-told : goal.returns-in-Err-clause-told
returns-in-Err-clause-told g c =
    λ out bytes e.
    let len = told_length _ _ bytes e (g.met.S.Store.told c.args.store.now) in
    refused_by c.args.unit.now c.shape-shape.result bytes c.args.asked.now.cdb (Read c.args.c) c.args.asked.now.tamper.now c.args.asked.now.labels.now out (length c.args.into.now) c.in-Err.asc _ _ c.refused.result c.args.into.now
    c.shape-shape.ensures (omega (arith, len, c.requires.unit.held)) e c.refused.ensures c.in-Err.ensures.refused

pub returns-in-Err-clause-medium : goal.returns-in-Err-clause-medium
returns-in-Err-clause-medium g c = λ m. inl (not_medium c.in-Err.asc c.refused.result _ _ c.refused.ensures m)

pub returns-in-Err-clause-key : goal.returns-in-Err-clause-key
returns-in-Err-clause-key g c = keyed c.in-Err.asc c.refused.result c.refused.ensures

pub returns-in-Ok-clause-told : goal.returns-in-Ok-clause-told
returns-in-Ok-clause-told g c =
    λ out bytes e.
    let len = told_length _ _ bytes e (g.met.S.Store.told c.args.store.now) in
    read_as c.args.unit.now c.shape-shape.result c.args.asked.now.cdb c.args.c c.in-Ok.lba c.in-Ok.from c.place_of-place.result _ _ (length c.args.into.now) c.args.asked.now.tamper.now c.args.asked.now.labels.now out bytes c.args.into.now _ _ c.read_blocks.result
    c.shape-shape.ensures (omega (arith, len, c.requires.unit.held)) (c.read_blocks.ensures.stays.same ∙ e) c.in-Ok.ensures.taken c.in-Ok.ensures.address c.in-Ok.ensures.moved c.in-Ok.ensures.there c.place_of-place.ensures (c.read_blocks.ensures.told bytes e)
