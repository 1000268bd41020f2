use Rattle.std.proofs.Common.{List, get_or, refl, rules, subst, sym, ◌∙◌, arith}
use Rattle.std.specs.Prelude.{None}
use Rattle.std.proofs.lemmas.List.{take_all}
use Rattle.mirror_laws.specs.Stretches.{Need}
use Rattle.mirror_volume.specs.Helds.{goods_in, so_far}
use Rattle.mirror_volume.specs.Mending.{MendsBy, need_by, needs_by}
use Rattle.mirror_volume.proofs.Helds.{goods-long, need-at, needs-count}
use Rattle.mirror_volume.proofs.Mended.{mends-more, mends-none}
use Rattle.mirror_volume.proofs.Running.{none-run, run-both, run-so}
use Rattle.mirror_volume.proofs.repair.mend_all.Goals as goal

pub loop-i-init : goal.loop-i-init
loop-i-init g c = record {
  ran = none-run _ (mends-none c.args.plan.now.script c.args.plan.now.half c.args.whole.n c.args.whole.v _);
  ready = c.requires.ready;
  marks = refl;
  few = omega arith;
}

pub returns-in_err-mend_block-clause-ran : goal.returns-in_err-mend_block-clause-ran
returns-in_err-mend_block-clause-ran g c =
    run-both _ c.loop-i.invariant.ran c.in_err-mend_block.ensures.ran (search rules)

pub loop-i-preserved : goal.loop-i-preserved
loop-i-preserved g c =
    let p = c.args.plan.now in
    let i = c.loop-i.i in
    let x = c.loop-i.invariant.ran in
    let y = c.in_ok-mend_block.ensures.ran in
    let held0 = c.args.held0.now in
    let held1 = c.args.held1.now in
    let ones = goods_in p.script.block held0 in
    let others = goods_in p.script.block held1 in
    let many0 = goods-long p.script.block held0.good.items held0.bytes.items held0.tuples.items ∙ c.requires.held.on0.good in
    let many1 = goods-long p.script.block held1.good.items held1.bytes.items held1.tuples.items ∙ c.requires.held.on1.good in
    let long = needs-count ones others (many0 ∙ sym many1) ∙ many0 in
    let need : Need = need_by (get_or ones i None) (get_or others i None) in
    record {
      ran = run-both _ x y
          (mends-more p.script p.half c.args.whole.n c.args.whole.v (needs_by ones others) i need _ _ _ x.runs y.runs (omega (arith, long)) (need-at ones others i need (omega (arith, many0)) (many0 ∙ sym many1)) x.came y.came);
      ready = c.mend_block.ensures.ready;
      marks = c.mend_block.ensures.marks ∙ c.loop-i.invariant.marks;
      few = (let a = c.loop-i.invariant.few in let b = c.in_ok-mend_block.ensures.few in omega (arith, a, b));
    }

pub returns-clause-ran : goal.returns-clause-ran
returns-clause-ran g c =
    let p = c.args.plan.now in
    let x = c.loop-i.invariant.ran in
    let held0 = c.args.held0.now in
    let held1 = c.args.held1.now in
    let ones = goods_in p.script.block held0 in
    let others = goods_in p.script.block held1 in
    let many0 = goods-long p.script.block held0.good.items held0.bytes.items held0.tuples.items ∙ c.requires.held.on0.good in
    let many1 = goods-long p.script.block held1.good.items held1.bytes.items held1.tuples.items ∙ c.requires.held.on1.good in
    let long = needs-count ones others (many0 ∙ sym many1) ∙ many0 in
    let all = take_all c.loop-i.i (needs_by ones others) (omega (arith, long)) in
    let old = so_far c.args.marks.now c.args.done.now in
    let new = so_far c.loop-i.marks c.loop-i.done in
    run-so _ x (λ s h. h) (subst (λ (ns : List Need). MendsBy p.script p.half c.args.whole.n c.args.whole.v ns old new x.runs) all x.came)
