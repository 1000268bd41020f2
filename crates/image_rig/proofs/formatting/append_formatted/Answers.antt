use Rattle.std.proofs.Common.{◌++◌, [], sym, ap, subst, ◌∙◌, append_assoc, take, get_or}
use Rattle.std.proofs.lemmas.Result.{err_from_is_err_and}
use Rattle.dix_base.proofs.Stores.{extended_on}
use Rattle.dix_base.specs.Stores.{StoreState}
use Rattle.dix_base.specs.Told.{Appended}
use Rattle.dix_base.proofs.Appending.{appended_both, appended_none}
use Rattle.rig_api.specs.Frames.{joined}
use Rattle.rig_api.specs.Headers.{header, version_for}
use Rattle.rig_api.specs.Image.{all_fresh, fresh_bytes}
use Rattle.rig_api.specs.Telling.{no_spec}
use Rattle.image_rig.proofs.Formats.{all_units, units_more}
use Rattle.image_rig.proofs.Short.{nothing_yet, units_short}
use Rattle.image_rig.proofs.formatting.append_formatted.Goals as goal

pub loop-unit-preserved : goal.loop-unit-preserved
loop-unit-preserved g c =
    let us = c.args.units.now in
    let i = c.loop-unit.unit-index in
    let h = header (version_for us) us in
    let more = appended_both (h ++ fresh_bytes (take i us)) (joined (all_fresh (get_or us i no_spec))) (g.S.Store.state c.args.store.now).bytes (g.S.Store.state c.loop-unit.store).bytes (g.S.Store.state c.append_unit.new.store).bytes c.loop-unit.invariant.appended c.in_ok-append_unit.ensures.appended in
    record {
      appended = subst (λ xs. Appended xs (g.S.Store.state c.args.store.now).bytes (g.S.Store.state c.append_unit.new.store).bytes)
          (append_assoc h (fresh_bytes (take i us)) (joined (all_fresh (get_or us i no_spec))) ∙ ap (λ v. h ++ v) (sym (units_more us i no_spec c.loop-unit-test.true))) more;
      store = extended_on (g.S.Store.state c.args.store.now) (g.S.Store.state c.loop-unit.store) (g.S.Store.state c.append_unit.new.store) c.loop-unit.invariant.store c.append_unit.ensures.stays;
    }

pub returns-clause-appended : goal.returns-clause-appended
returns-clause-appended g c = subst (λ xs. Appended xs (g.S.Store.state c.args.store.now).bytes (g.S.Store.state c.loop-unit.store).bytes) (all_units c.args.units.now c.loop-unit.unit-index c.loop-unit-test.false) c.loop-unit.invariant.appended

pub returns-in_err-append-clause-short : goal.returns-in_err-append-clause-short
returns-in_err-append-clause-short g c =
    let old = g.S.Store.state c.args.store.now in
    let p = err_from_is_err_and c.from_residual.result c.from_residual.ensures.1 in
    rw (p.1, p.2) (λ is. ([], nothing_yet c.args.units.now c.requires, subst (λ (s : StoreState). Appended [] old.bytes s.bytes) (sym (c.in_err-append.ensures.memory is)) (appended_none old.bytes)))

pub returns-in_err-append_unit-clause-short : goal.returns-in_err-append_unit-clause-short
returns-in_err-append_unit-clause-short g c =
    let us = c.args.units.now in
    let i = c.loop-unit.unit-index in
    let before = header (version_for us) us ++ fresh_bytes (take i us) in
    let p = err_from_is_err_and c.from_residual-in_err-append_unit.result c.from_residual-in_err-append_unit.ensures.1 in
    rw (p.1, p.2)
    (λ is.
    let s = c.in_err-append_unit.ensures.short is in (
      before ++ s.0,
      units_short us i no_spec s.0 c.loop-unit-test.true s.1,
      appended_both before s.0 (g.S.Store.state c.args.store.now).bytes (g.S.Store.state c.loop-unit.store).bytes (g.S.Store.state c.append_unit.new.store).bytes c.loop-unit.invariant.appended s.2,
    ))
