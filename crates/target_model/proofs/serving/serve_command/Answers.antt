use Rattle.std.proofs.Common.{length, arith, ap, sym, ◌∙◌, Some}
use Rattle.rig_api.specs.declared.request.Request.TheVariants.{Read, Write, Verify, ReadCapacity}
use Rattle.rig_api.specs.Target.{illegal}
use Rattle.target_model.proofs.Bytes.{told_length}
use Rattle.target_model.proofs.Composing.{served_fault, served_request, served_capacity}
use Rattle.target_model.proofs.serving.serve_command.Goals as goal

pub returns-in-Err-clause-told : goal.returns-in-Err-clause-told
returns-in-Err-clause-told g c =
    λ cdb told bytes e.
    let len = told_length _ _ bytes e (g.met.S.Store.told c.args.store.now) in
    served_fault c.args.unit.now bytes c.args.tamper.now cdb c.args.labels.now c.args.out.now (length c.args.into.now) _ c.in-Err.fault _ c.refused.result c.args.into.now
    (omega (arith, len, c.requires.unit.held)) e (sym c.in-Err.is ∙ told) (c.refused.ensures ∙ ap (λ asc. record { done = 0; sense = Some (illegal asc) }) c.asc_of.ensures)

pub returns-in-Read-clause-told : goal.returns-in-Read-clause-told
returns-in-Read-clause-told g c =
    λ cdb told bytes e.
    served_request c.args.unit.now bytes c.args.tamper.now cdb c.args.labels.now c.args.out.now (length c.args.into.now) _ _ c.in-Ok.cdb (Read c.in-Read.c) _ c.read.result _ _
    (sym c.in-Ok.is ∙ told) c.in-Read.ensures (c.read.ensures.told c.args.out.now bytes e)

pub returns-in-Write-clause-told : goal.returns-in-Write-clause-told
returns-in-Write-clause-told g c =
    λ cdb told bytes e.
    served_request c.args.unit.now bytes c.args.tamper.now cdb c.args.labels.now c.args.out.now (length c.args.into.now) _ _ c.in-Ok.cdb (Write c.in-Write.c) _ c.write.result _ _
    (sym c.in-Ok.is ∙ told) c.in-Write.ensures (c.write.ensures.told c.args.into.now bytes e)

pub returns-in-Verify-clause-told : goal.returns-in-Verify-clause-told
returns-in-Verify-clause-told g c =
    λ cdb told bytes e.
    served_request c.args.unit.now bytes c.args.tamper.now cdb c.args.labels.now c.args.out.now (length c.args.into.now) _ _ c.in-Ok.cdb (Verify c.in-Verify.c) _ c.verify.result _ _
    (sym c.in-Ok.is ∙ told) c.in-Verify.ensures (c.verify.ensures.told c.args.out.now c.args.into.now bytes e)

pub returns-in-ReadCapacity-clause-told : goal.returns-in-ReadCapacity-clause-told
returns-in-ReadCapacity-clause-told g c =
    λ cdb told bytes e.
    let len = told_length _ _ bytes e (g.met.S.Store.told c.args.store.now) in
    served_request c.args.unit.now bytes c.args.tamper.now cdb c.args.labels.now c.args.out.now (length c.args.into.now) _ _ c.in-Ok.cdb (ReadCapacity c.in-ReadCapacity.alloc_len) _ c.read_capacity.result _ _
    (sym c.in-Ok.is ∙ told) c.in-ReadCapacity.ensures
    (served_capacity c.args.unit.now bytes c.in-Ok.cdb c.in-ReadCapacity.alloc_len _ c.args.tamper.now c.args.labels.now c.args.out.now c.args.into.now _ _ c.read_capacity.result
    (omega (arith, len, c.requires.unit.held)) e c.read_capacity.ensures.refused c.read_capacity.ensures.told)
