use Rattle.std.proofs.Common.{length, arith, ◌∙◌}
use Rattle.rig_api.specs.declared.request.Request.TheVariants.{Verify}
use Rattle.target_model.proofs.Bytes.{told_length}
use Rattle.target_model.proofs.Composing.{can_move, keyed, not_medium, refused_by, verified_as}
use Rattle.target_model.proofs.serving.verify.Goals as goal

pub verify_blocks-requires : goal.verify_blocks-requires
verify_blocks-requires g c = record { can = can_move c.args.unit.now c.shape-shape.result c.args.c c.args.c.lba c.args.c.lba c.place_of.result _ c.shape-shape.ensures c.requires.unit c.in-Ok.ensures.frame c.in-Ok.ensures.inside c.in-Ok.ensures.inside c.place_of.ensures }

pub returns-in-Err-clause-told : goal.returns-in-Err-clause-told
returns-in-Err-clause-told g c =
    λ out into bytes e.
    let len = told_length _ _ bytes e (g.met.S.Store.told c.args.store.now) in
    refused_by c.args.unit.now c.shape-shape.result bytes c.args.asked.now.cdb (Verify c.args.c) c.args.asked.now.tamper.now c.args.asked.now.labels.now out (length into) c.in-Err.asc _ _ c.refused.result into
    c.shape-shape.ensures (omega (arith, len, c.requires.unit.held)) e c.refused.ensures c.in-Err.ensures.refused

pub returns-in-Err-clause-medium : goal.returns-in-Err-clause-medium
returns-in-Err-clause-medium g c = not_medium c.in-Err.asc c.refused.result _ _ c.refused.ensures

pub returns-in-Err-clause-key : goal.returns-in-Err-clause-key
returns-in-Err-clause-key g c = keyed c.in-Err.asc c.refused.result c.refused.ensures

pub returns-in-Ok-clause-told : goal.returns-in-Ok-clause-told
returns-in-Ok-clause-told g c =
    λ out into bytes e.
    let len = told_length _ _ bytes e (g.met.S.Store.told c.args.store.now) in
    let r = c.verify_blocks.ensures.told bytes e in
    verified_as c.args.unit.now c.shape-shape.result c.args.asked.now.cdb c.args.c c.place_of.result _ _ (length into) c.args.asked.now.tamper.now c.args.asked.now.labels.now out bytes into r.0 _ c.verify_blocks.result
    c.shape-shape.ensures (omega (arith, len, c.requires.unit.held)) (c.verify_blocks.ensures.stays.same ∙ e) c.in-Ok.ensures.taken c.in-Ok.ensures.inside c.place_of.ensures r.1
