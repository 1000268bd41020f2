use Rattle.std.proofs.Common.{refl, ap, ◌∙◌}
use Rattle.std.proofs.lemmas.Result.{err_from_is_err_and}
use Rattle.dix_base.specs.Stores.{StoreState}
use Rattle.lab_run.specs.Showing.{shown_status}
use Rattle.lab_run.specs.Texts.{no_memory}
use Rattle.lab_run.proofs.Openings.{finds_named}
use Rattle.lab_run.proofs.Shows.{shown, spared, unshown}
use Rattle.lab_run.proofs.showing.show_blocks.Goals as goal

pub returns-in_err-room-clause-came : goal.returns-in_err-room-clause-came
returns-in_err-room-clause-came g c = λ left reads rig second.
    let p = err_from_is_err_and c.from_residual.result c.from_residual.ensures.1 in
    rw (p.1, p.2) (spared _ c.args.only_bad c.args.place _ left reads rig second no_memory _ _ refl)

pub returns-in_err-found-clause-came : goal.returns-in_err-found-clause-came
returns-in_err-found-clause-came g c = λ left reads rig second.
    let p = err_from_is_err_and c.from_residual-in_err-found.result c.from_residual-in_err-found.ensures.1 in
    let h = finds_named _ c.args.place _ _ _ _ c.image_of.ensures c.in_err-found.ensures in
    rw (p.1, p.2) (unshown _ c.args.only_bad c.args.place _ _ left reads rig second c.in_err-found.field-0.0 _ _ _ refl h.came h.kept)

pub show_blocks-ended-requires-clause-place : goal.show_blocks-ended-requires-clause-place
show_blocks-ended-requires-clause-place g c = c.in_ok-found.ensures.came.inside

pub show_blocks-ended-requires-clause-held : goal.show_blocks-ended-requires-clause-held
show_blocks-ended-requires-clause-held g c = c.in_ok-found.ensures.came.held

pub returns-clause-came : goal.returns-clause-came
returns-clause-came g c = λ left reads rig second.
    let was : StoreState = g.A.Store.state c.args.store.now in
    let mid : StoreState = g.A.Store.state c.find.new.store in
    let is : StoreState = g.A.Store.state c.show_blocks-ended.new.store in
    let h = finds_named _ c.args.place _ _ was mid c.image_of.ensures c.in_ok-found.ensures in
    let s = c.show_blocks-ended.ensures in
    shown _ c.args.only_bad c.args.place was mid is left reads rig second c.in_ok-found.found c.show_blocks-ended.result _ _ _ _ c.status_of.result h.came h.kept s.store s.shown s.calm c.status_of.ensures

pub returns-clause-handed : goal.returns-clause-handed
returns-clause-handed g c = λ h. c.show_blocks-ended.ensures.handed (λ e. h (c.status_of.ensures ∙ ap shown_status e))
