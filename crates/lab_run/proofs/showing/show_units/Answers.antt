use Rattle.std.proofs.Common.{refl}
use Rattle.std.proofs.lemmas.Result.{err_from_is_err_and}
use Rattle.lab_run.proofs.Openings.{tried}
use Rattle.lab_run.proofs.Shows.{listed, unlisted}
use Rattle.lab_run.proofs.showing.show_units.Goals as goal

pub returns-in_err-image-clause-came : goal.returns-in_err-image-clause-came
returns-in_err-image-clause-came g c = λ left reads rig second.
    let p = err_from_is_err_and c.from_residual.result c.from_residual.ensures.1 in
    let e = c.in_err-image.ensures in
    rw (p.1, p.2) (unlisted _ _ _ left reads rig second c.in_err-image.field-0.0 _ _ _ refl (tried _ _ c.image_of.result.now _ _ c.image_of.ensures e.judged e.looked))

pub returns-clause-came : goal.returns-clause-came
returns-clause-came g c = λ left reads rig second.
    let e = c.in_ok-image.ensures in
    listed _ _ _ left reads rig second c.in_ok-image.image _ _ _ _ c.list_units.result (tried _ _ c.image_of.result.now _ _ c.image_of.ensures e.judged e.looked) c.list_units.ensures.written
