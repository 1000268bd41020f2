use Rattle.std.proofs.Common.{refl, sym, ◌∙◌}
use Rattle.std.proofs.lemmas.Result.{err_from_is_err_and}
use Rattle.dix_base.specs.Stores.{StoreState}
use Rattle.lab_run.specs.Texts.{no_memory}
use Rattle.lab_run.proofs.Dumping.{halts, imports, spared_import, unfit_import, unfound_import, unsized}
use Rattle.lab_run.proofs.Openings.{finds_named}
use Rattle.lab_run.proofs.importing.import.Goals as goal

pub returns-in_err-room-clause-came : goal.returns-in_err-room-clause-came
returns-in_err-room-clause-came g c = λ rig second.
    let p = err_from_is_err_and c.from_residual.result c.from_residual.ensures.1 in
    rw (p.1, p.2) (spared_import _ c.args.place c.args.layout _ _ _ rig second no_memory _ _ refl)

pub returns-in_err-found-clause-came : goal.returns-in_err-found-clause-came
returns-in_err-found-clause-came g c = λ rig second.
    let p = err_from_is_err_and c.from_residual-in_err-found.result c.from_residual-in_err-found.ensures.1 in
    let h = finds_named _ c.args.place _ _ _ _ c.image_of.ensures c.in_err-found.ensures in
    rw (p.1, p.2) (unfound_import _ c.args.place c.args.layout _ _ _ _ rig second c.in_err-found.field-0.0 _ _ _ refl h.came h.kept)

pub fits_there-requires : goal.fits_there-requires
fits_there-requires g c = c.in_ok-found.ensures.came.inside

pub import_blocks-requires-clause-place : goal.import_blocks-requires-clause-place
import_blocks-requires-clause-place g c = record {
  there = c.in_ok-found.ensures.came.inside;
  fits = rw (sym c.fits_there.ensures ∙ c.if-not-fits_there.false);
  held = c.in_ok-found.ensures.came.held;
}

pub returns-then-not-fits_there-clause-came : goal.returns-then-not-fits_there-clause-came
returns-then-not-fits_there-clause-came g c = λ rig second.
    let h = finds_named _ c.args.place _ _ _ _ c.image_of.ensures c.in_ok-found.ensures in
    unfit_import _ c.args.place c.args.layout _ _ _ _ rig second c.in_ok-found.found c.fits_there.result _ _ h.came h.kept c.fits_there.ensures c.if-not-fits_there.true

pub sized-requires : goal.sized-requires
sized-requires g c = c.in_ok-found.ensures.came.inside

pub returns-in_err-sized-clause-came : goal.returns-in_err-sized-clause-came
returns-in_err-sized-clause-came g c = λ rig second.
    let p = err_from_is_err_and c.from_residual-in_err-sized.result c.from_residual-in_err-sized.ensures.1 in
    let h = finds_named _ c.args.place _ _ _ _ c.image_of.ensures c.in_ok-found.ensures in
    rw (p.1, p.2) (unsized _ c.args.place c.args.layout _ _ _ _ rig second c.in_ok-found.found c.in_err-sized.field-0.0 _ _ h.came h.kept (sym c.fits_there.ensures ∙ c.if-not-fits_there.false) c.in_err-sized.ensures)

pub returns-in_err-count-clause-came : goal.returns-in_err-count-clause-came
returns-in_err-count-clause-came g c = λ rig second.
    let p = err_from_is_err_and c.from_residual-in_err-count.result c.from_residual-in_err-count.ensures.1 in
    let mid : StoreState = g.A.Store.state c.find.new.store in
    let h = finds_named _ c.args.place _ _ _ mid c.image_of.ensures c.in_ok-found.ensures in
    let s = c.in_err-count.ensures in
    rw (p.1, p.2) (halts _ c.args.place c.args.layout _ _ mid _ _ _ _ _ rig second c.in_ok-found.found c.in_err-count.field-0.0 _ _ _ (c.deref_mut.ensures.len ∙ c.in_ok-room.ensures.len) h.came h.kept
    (record { apart = s.apart; store = s.store; sources = s.sources }) (sym c.fits_there.ensures ∙ c.if-not-fits_there.false) s.imported refl)

pub returns-clause-came : goal.returns-clause-came
returns-clause-came g c = λ rig second.
    let mid : StoreState = g.A.Store.state c.find.new.store in
    let h = finds_named _ c.args.place _ _ _ mid c.image_of.ensures c.in_ok-found.ensures in
    let s = c.in_ok-count.ensures in
    imports _ c.args.place c.args.layout _ _ mid _ _ _ _ _ rig second c.in_ok-found.found c.in_ok-count.count _ _ _ _ _ c.finish.result (c.deref_mut.ensures.len ∙ c.in_ok-room.ensures.len) h.came h.kept
    (record { apart = s.apart; store = s.store; sources = s.sources }) (sym c.fits_there.ensures ∙ c.if-not-fits_there.false) s.imported (c.as_slice.ensures.value ∙ c.imported_line.ensures) c.finish.ensures.written
