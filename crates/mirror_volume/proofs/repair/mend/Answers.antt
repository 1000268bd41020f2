use Rattle.std.proofs.Common.{ℕ, ◌≡◌, ◌+◌, ◌*◌, Bool, true, false, List, Option, None, drop, get_or, inr, refl, ap, rules, arith, ◌∙◌}
use Rattle.std.specs.Prelude.{is_some, not}
use Rattle.bio_core.specs.declared.fate.Why.{Why}
use Rattle.pi_tuple.specs.Tuples.{tuple_in}
use Rattle.mirror_volume.specs.declared.piece.Piece.{Piece}
use Rattle.mirror_volume.specs.Inner.{write_script}
use Rattle.mirror_volume.proofs.Helds.{block-at}
use Rattle.mirror_volume.proofs.Running.{run-so}
use Rattle.mirror_volume.proofs.repair.mend.Goals as goal

turned : (some none : Bool) → some ≡ not none → none ≡ not some
turned true true e = e
turned true false e = refl
turned false true e = refl
turned false false e = e

pub returns-in_err-write_piece-clause-ran : goal.returns-in_err-write_piece-clause-ran
returns-in_err-write_piece-clause-ran g c =
    let p : Piece = record c.args.whole { n = 1; v = c.args.whole.v + c.args.i } in
    let a = c.requires.piece.inside in
    let b = c.requires.block in
    let x = c.in_err-write_piece.ensures.ran in
    run-so _ x (λ own e. inr (record { piece = p; no_op = c.requires.repair; one = refl; inside = omega (arith, a, b); app = _; body = _; own_is = e })) (search rules)

pub returns-clause-ran : goal.returns-clause-ran
returns-clause-ran g c =
    let s = c.args.plan.now.script in
    let p : Piece = record c.args.whole { n = 1; v = c.args.whole.v + c.args.i } in
    let a = c.requires.piece.inside in
    let b = c.requires.block in
    let x = c.in_ok-write_piece.ensures.ran in
    let o = x.came in
    let app = c.tag_of-app.ensures ∙ ap (λ (xs : List ℕ). (tuple_in (drop (8 * c.args.i) xs)).app) c.deref-2.ensures.value in
    let bytes = block-at s.block c.args.i c.deref.result.now c.args.from.now.bytes.items c.deref.ensures.value in
    let found = c.is_none.ensures in
    run-so _ x (λ own e. inr (record { piece = p; no_op = c.requires.repair; one = refl; inside = omega (arith, a, b); app = _; body = _; own_is = e })) (record {
      run = o.run;
      only = o.only;
      own_is = o.own_is ∙ (λ j. write_script s c.args.plan.now.half p (app j) (bytes j));
      so = turned _ c.is_none.result found ∙ ap (λ (fs : List (Option Why)). not (is_some (get_or fs 0 None))) o.so;
    })
