use Rattle.std.proofs.Common.{refl, sym, ◌∙◌, ap}
use Rattle.std.proofs.lemmas.Bool.{eqb-true}
use Rattle.std.proofs.lemmas.Result.{err_from_is_err_and}
use Rattle.dix_base.specs.Stores.{StoreState}
use Rattle.lab_run.specs.Comparing.{compared_status}
use Rattle.lab_run.specs.Texts.{no_memory}
use Rattle.lab_run.proofs.Differing.{compared, no_first, no_second, other_count, other_size, spared}
use Rattle.lab_run.proofs.Openings.{finds_named}
use Rattle.lab_run.proofs.comparing.diff.Goals as goal

pub returns-in_err-room-clause-came : goal.returns-in_err-room-clause-came
returns-in_err-room-clause-came g c = λ left reads rig.
    let p = err_from_is_err_and c.from_residual.result c.from_residual.ensures.1 in
    rw (p.1, p.2) (spared _ c.args.one c.args.other _ _ left reads rig no_memory _ _ refl)

pub returns-in_err-here-clause-came : goal.returns-in_err-here-clause-came
returns-in_err-here-clause-came g c = λ left reads rig.
    let p = err_from_is_err_and c.from_residual-in_err-here.result c.from_residual-in_err-here.ensures.1 in
    let h = finds_named _ c.args.one _ _ _ _ c.image_of.ensures c.in_err-here.ensures in
    rw (p.1, p.2) (no_first _ c.args.one c.args.other _ _ _ left reads rig c.in_err-here.field-0.0 _ _ _ refl h.came h.kept)

pub returns-in-Err-clause-came : goal.returns-in-Err-clause-came
returns-in-Err-clause-came g c = λ left reads rig.
    let h = finds_named _ c.args.one _ _ _ _ c.image_of.ensures c.in_ok-here.ensures in
    let k = finds_named _ c.args.other _ _ _ _ c.second_of.ensures c.in-Err.ensures in
    no_second _ c.args.one c.args.other _ _ _ _ left reads rig c.in_ok-here.here c.in-Err.unfound c.of_second.result _ _ h.came h.kept c.of_second.ensures k.came k.kept

pub are_one_size-requires-clause-one : goal.are_one_size-requires-clause-one
are_one_size-requires-clause-one g c = c.in_ok-here.ensures.came.inside

pub are_one_size-requires-clause-other : goal.are_one_size-requires-clause-other
are_one_size-requires-clause-other g c = c.in-Ok.ensures.came.inside

pub diff_blocks-ended-requires-clause-places : goal.diff_blocks-ended-requires-clause-places
diff_blocks-ended-requires-clause-places g c = record {
  place = c.in_ok-here.ensures.came.inside;
  other_place = c.in-Ok.ensures.came.inside;
  many = c.if-here-there.false;
  held = c.in_ok-here.ensures.came.held;
  other_held = c.in-Ok.ensures.came.held;
}

pub returns-then-not-are_one_size-clause-came : goal.returns-then-not-are_one_size-clause-came
returns-then-not-are_one_size-clause-came g c = λ left reads rig.
    let h = finds_named _ c.args.one _ _ _ _ c.image_of.ensures c.in_ok-here.ensures in
    let k = finds_named _ c.args.other _ _ _ _ c.second_of.ensures c.in-Ok.ensures in
    other_size _ c.args.one c.args.other _ _ _ _ left reads rig c.in_ok-here.here c.in-Ok.there c.are_one_size.result _ _ (record { first = h.came; kept = h.kept; second = k.came; second_kept = k.kept }) c.are_one_size.ensures c.if-not-are_one_size.true

pub returns-then-here-there-clause-came : goal.returns-then-here-there-clause-came
returns-then-here-there-clause-came g c = λ left reads rig.
    let h = finds_named _ c.args.one _ _ _ _ c.image_of.ensures c.in_ok-here.ensures in
    let k = finds_named _ c.args.other _ _ _ _ c.second_of.ensures c.in-Ok.ensures in
    other_count _ c.args.one c.args.other _ _ _ _ left reads rig c.in_ok-here.here c.in-Ok.there c.are_one_size.result _ _ (record { first = h.came; kept = h.kept; second = k.came; second_kept = k.kept }) c.are_one_size.ensures c.if-not-are_one_size.false
    c.if-here-there.true

pub returns-clause-came : goal.returns-clause-came
returns-clause-came g c = λ left reads rig.
    let was : StoreState = g.A.Store.state c.args.first.now in
    let mid : StoreState = g.A.Store.state c.find.new.store in
    let is : StoreState = g.A.Store.state c.diff_blocks-ended.new.store in
    let beside_was : StoreState = g.B.Store.state c.args.second.now in
    let beside_mid : StoreState = g.B.Store.state c.find-2.new.store in
    let beside_is : StoreState = g.B.Store.state c.diff_blocks-ended.new.other in
    let h = finds_named _ c.args.one _ _ was mid c.image_of.ensures c.in_ok-here.ensures in
    let k = finds_named _ c.args.other _ _ beside_was beside_mid c.second_of.ensures c.in-Ok.ensures in
    let s = c.diff_blocks-ended.ensures in
    compared _ c.args.one c.args.other was mid is beside_was beside_mid beside_is left reads rig c.in_ok-here.here c.in-Ok.there c.diff_blocks-ended.result _ _ _ _ c.status_of.result
    (record { first = h.came; kept = h.kept; second = k.came; second_kept = k.kept }) (record { first = s.first; second = s.second }) (eqb-true _ _ (sym c.are_one_size.ensures ∙ c.if-not-are_one_size.false)) c.if-here-there.false s.compared s.calm c.status_of.ensures

pub returns-clause-handed : goal.returns-clause-handed
returns-clause-handed g c = λ h. c.diff_blocks-ended.ensures.handed (λ e. h (c.status_of.ensures ∙ ap compared_status e))
