use Rattle.std.proofs.Common.{refl, sym, ◌∙◌, ap}
use Rattle.std.proofs.lemmas.Result.{err_from_is_err_and}
use Rattle.dix_base.specs.Stores.{StoreState}
use Rattle.lab_run.specs.Dumping.{dumped_status}
use Rattle.lab_run.specs.Texts.{no_memory}
use Rattle.lab_run.proofs.Dumping.{exported, spared_export, unfit_export, unfound_export}
use Rattle.lab_run.proofs.Openings.{finds_named}
use Rattle.lab_run.proofs.exporting.export.Goals as goal

pub returns-in_err-room-clause-came : goal.returns-in_err-room-clause-came
returns-in_err-room-clause-came g c = λ left reads rig second.
    let p = err_from_is_err_and c.from_residual.result c.from_residual.ensures.1 in
    rw (p.1, p.2) (spared_export _ c.args.place c.args.layout _ left reads rig second no_memory _ _ refl)

pub returns-in_err-found-clause-came : goal.returns-in_err-found-clause-came
returns-in_err-found-clause-came g c = λ left reads rig second.
    let p = err_from_is_err_and c.from_residual-in_err-found.result c.from_residual-in_err-found.ensures.1 in
    let h = finds_named _ c.args.place _ _ _ _ c.image_of.ensures c.in_err-found.ensures in
    rw (p.1, p.2) (unfound_export _ c.args.place c.args.layout _ _ left reads rig second c.in_err-found.field-0.0 _ _ _ refl h.came h.kept)

pub fits_there-requires : goal.fits_there-requires
fits_there-requires g c = c.in_ok-found.ensures.came.inside

pub export_blocks-ended-requires-clause-place : goal.export_blocks-ended-requires-clause-place
export_blocks-ended-requires-clause-place g c = c.in_ok-found.ensures.came.inside

pub export_blocks-ended-requires-clause-held : goal.export_blocks-ended-requires-clause-held
export_blocks-ended-requires-clause-held g c = c.in_ok-found.ensures.came.held

pub returns-then-not-fits_there-clause-came : goal.returns-then-not-fits_there-clause-came
returns-then-not-fits_there-clause-came g c = λ left reads rig second.
    let h = finds_named _ c.args.place _ _ _ _ c.image_of.ensures c.in_ok-found.ensures in
    unfit_export _ c.args.place c.args.layout _ _ left reads rig second c.in_ok-found.found c.fits_there.result _ _ h.came h.kept c.fits_there.ensures c.if-not-fits_there.true

pub returns-clause-came : goal.returns-clause-came
returns-clause-came g c = λ left reads rig second.
    let was : StoreState = g.A.Store.state c.args.store.now in
    let mid : StoreState = g.A.Store.state c.find.new.store in
    let is : StoreState = g.A.Store.state c.export_blocks-ended.new.store in
    let h = finds_named _ c.args.place _ _ was mid c.image_of.ensures c.in_ok-found.ensures in
    let s = c.export_blocks-ended.ensures in
    exported _ c.args.place c.args.layout was mid is left reads rig second c.in_ok-found.found c.export_blocks-ended.result _ _ _ _ c.dumped.result h.came h.kept s.store
    (sym c.fits_there.ensures ∙ c.if-not-fits_there.false) s.dumped s.calm c.dumped.ensures

pub returns-clause-handed : goal.returns-clause-handed
returns-clause-handed g c = λ h. c.export_blocks-ended.ensures.handed (λ e. h (c.dumped.ensures ∙ ap dumped_status e))
