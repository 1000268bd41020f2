use Rattle.std.proofs.Common.{◌≡◌, ◌-◌, ◌*◌, List, ap, drop, length, min, refl, rules, subst, sym, take_at, ◌∙◌, arith}
use Rattle.mirror_laws.specs.declared.marks.Marks.{Marks}
use Rattle.mirror_volume.specs.declared.piece.Piece.{Piece}
use Rattle.mirror_volume.specs.Mending.{RepairBy, StretchBy, stretches_in}
use Rattle.mirror_volume.proofs.Mended.{repair-more}
use Rattle.mirror_volume.proofs.Planned.{half-small}
use Rattle.mirror_volume.specs.Helds.{none_mended, so_far}
use Rattle.mirror_volume.proofs.Running.{none-run, run-both, run-so}
use Rattle.mirror_volume.proofs.mirror.repair_all.Goals as goal

pub loop-i-init : goal.loop-i-init
loop-i-init g c = record {
  ran = none-run _ (refl, refl);
  ready = c.requires.ready;
  pages = refl;
  marks = refl;
  few = omega arith;
}

pub repair_stretch-requires-clause-few : goal.repair_stretch-requires-clause-few
repair_stretch-requires-clause-few g c =
    let a = c.loop-i.invariant.few in
    let b = half-small c.args.plan.now c.requires.ready.plan in
    let e = ap (λ (q : Piece). q.n) c.whole_request-whole.ensures in
    let d : c.div_ceil-i-end.result ≡ stretches_in c.args.plan.now.half = c.div_ceil-i-end.ensures ∙ (omega arith) in
    let n = c.min-n.ensures in
    omega (arith, a, b, e, n, d)

pub returns-in_err-repair_stretch-clause-ran : goal.returns-in_err-repair_stretch-clause-ran
returns-in_err-repair_stretch-clause-ran g c =
    run-both _ c.loop-i.invariant.ran c.in_err-repair_stretch.ensures.ran (search rules)

pub loop-i-preserved : goal.loop-i-preserved
loop-i-preserved g c =
    let p = c.args.plan.now in
    let i = c.loop-i.i in
    let x = c.loop-i.invariant.ran in
    let y = c.in_ok-repair_stretch.ensures.ran in
    let whole = c.whole_request-whole.ensures in
    let was = c.loop-i.state.marks in
    let marks = c.repair_stretch.new.marks in
    let done = so_far was.items c.loop-i.done in
    let next = so_far marks c.repair_stretch.new.done in
    let many = c.repair_stretch.ensures.marks in
    let lent = c.deref_mut.ensures.len in
    let put = take_at marks (drop (length marks) was.items) was.len (omega (arith, many, lent)) in
    let here = subst (λ (ms : List Marks). StretchBy p.script p.half c.whole_request-whole.result.v c.whole_request-whole.result.n (record done { marks = ms }) next y.runs) c.deref_mut.ensures.value y.came in
    let there = subst (λ (q : Piece). StretchBy p.script p.half q.v q.n done next y.runs) whole here in
    let long = subst (λ k. StretchBy p.script p.half (128 * i) k done next y.runs) c.min-n.ensures there in
    let back = subst (λ (ms : List Marks). StretchBy p.script p.half (128 * i) (min 128 (p.half - 128 * i)) done (record next { marks = ms }) y.runs) (sym put) long in
    record {
      ran = run-both _ x y (repair-more p.script p.half i _ done _ x.runs y.runs x.came back);
      ready = c.repair_stretch.ensures.ready;
      pages = c.loop-i.invariant.pages;
      marks = ap length put ∙ many ∙ ap length c.deref_mut.ensures.value ∙ c.loop-i.invariant.marks;
      few = (let a = c.loop-i.invariant.few in let b = c.in_ok-repair_stretch.ensures.few in let e = ap (λ (q : Piece). q.n) whole in let n = c.min-n.ensures in omega (arith, a, b, e, n));
    }

pub returns-clause-ran : goal.returns-clause-ran
returns-clause-ran g c =
    let p = c.args.plan.now in
    let x = c.loop-i.invariant.ran in
    let d : c.div_ceil-i-end.result ≡ stretches_in p.half = c.div_ceil-i-end.ensures ∙ (omega arith) in
    let all : c.loop-i.i ≡ stretches_in p.half = omega (arith, d) in
    run-so _ x (λ s h. h) (subst (λ k. RepairBy p.script p.half 0 k (none_mended c.args.state.now.marks.items) (so_far c.loop-i.state.marks.items c.loop-i.done) x.runs) all x.came)
