use Rattle.std.proofs.Common.{◌≡◌, ◌+◌, ◌-◌, true, ap, drop, rules, subst, take, ◌∙◌, arith}
use Rattle.std.proofs.lemmas.Result.{IfOk-weaker}
use Rattle.mirror_volume.specs.declared.piece.Piece.{Piece}
use Rattle.mirror_volume.specs.Inner.{read_pi_script}
use Rattle.mirror_volume.specs.Asked.{AreOf, fresh_on0, stretches}
use Rattle.mirror_volume.specs.Helds.{goods_in}
use Rattle.mirror_volume.specs.Mending.{fresh_on1}
use Rattle.mirror_volume.proofs.Mended.{stretched}
use Rattle.mirror_volume.proofs.Running.{none-run, run-both}
use Rattle.mirror_volume.proofs.repair.repair_stretch.Goals as goal

pub returns-in_err-wanted0-clause-ran : goal.returns-in_err-wanted0-clause-ran
returns-in_err-wanted0-clause-ran g c = none-run _ (search rules)

pub returns-in_err-wanted1-clause-ran : goal.returns-in_err-wanted1-clause-ran
returns-in_err-wanted1-clause-ran g c = none-run _ (search rules)

pub returns-in_err-held1-clause-ran : goal.returns-in_err-held1-clause-ran
returns-in_err-held1-clause-ran g c =
    run-both _ c.in_ok-held0.ensures.ran c.in_err-held1.ensures.ran (search rules)

pub returns-clause-ran : goal.returns-clause-ran
returns-clause-ran g c =
    let p = c.args.plan.now in
    let whole = c.args.whole in
    let x = c.in_ok-held0.ensures.ran in
    let y = c.in_ok-held1.ensures.ran in
    let z = c.mend_all.ensures.ran in
    let w0 = c.deref.result.now in
    let w1 = c.deref-2.result.now in
    let many : whole.v + whole.n - whole.v ≡ whole.n = omega arith in
    let e0 = c.deref.ensures.value ∙ c.in_ok-wanted0.ensures ∙ ap (λ k. fresh_on0 (take k (drop whole.v c.args.marks.now))) many in
    let e1 = c.deref-2.ensures.value ∙ c.in_ok-wanted1.ensures ∙ ap (λ k. fresh_on1 (take k (drop whole.v c.args.marks.now))) many in
    let a0 = subst (λ (q : Piece). AreOf (read_pi_script p.script p.half) q (stretches w0) x.runs) c.requires.stretch.all x.came.0 in
    let a1 = subst (λ (q : Piece). AreOf (read_pi_script p.script p.half) (record q { on1 = true }) (stretches w1) y.runs) c.requires.stretch.all y.came.0 in
    run-both _ x (run-both (λ runs. Unit {0}) y z tt)
    (IfOk-weaker c.mend_all.result _ _ (λ u m. stretched p.script p.half whole.v whole.n _ _ x.runs y.runs z.runs w0 w1 (goods_in p.script.block c.in_ok-held0.held0) (goods_in p.script.block c.in_ok-held1.held1) e0 e1 a0 a1 x.came.1 y.came.1 m) z.came)
