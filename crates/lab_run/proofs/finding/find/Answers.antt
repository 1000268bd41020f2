use Rattle.std.proofs.Common.{refl}
use Rattle.std.proofs.lemmas.Result.{err_from_is_err_and}
use Rattle.lab_run.proofs.Openings.{found, not_opened, not_there, tried}
use Rattle.lab_run.proofs.finding.find.Goals as goal

pub returns-in_err-image : goal.returns-in_err-image
returns-in_err-image g c =
    let p = err_from_is_err_and c.from_residual.result c.from_residual.ensures.1 in
    let e = c.in_err-image.ensures in
    rw (p.1, p.2) (not_opened c.in_err-image.field-0.0 _ c.args.place c.args.name.now _ _ refl (tried _ _ _ _ _ refl e.judged e.looked))

pub returns-in_err-at : goal.returns-in_err-at
returns-in_err-at g c =
    let p = err_from_is_err_and c.from_residual-in_err-at.result c.from_residual-in_err-at.ensures.1 in
    let e = c.in_ok-image.ensures in
    rw (p.1, p.2) (not_there c.in_ok-image.image c.in_err-at.field-0.0 _ c.args.place c.args.name.now _ _ refl (tried _ _ _ _ _ refl e.judged e.looked) c.in_err-at.ensures.value)

pub returns : goal.returns
returns g c =
    let e = c.in_ok-image.ensures in
    found c.in_ok-image.image c.in_ok-at.at c.args.place c.args.name.now _ _ (tried _ _ _ _ _ refl e.judged e.looked) c.in_ok-at.ensures.value c.in_ok-at.ensures.there
