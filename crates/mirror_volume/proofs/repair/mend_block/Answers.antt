use Rattle.std.proofs.Common.{◌+◌, ◌*◌, ◌<◌, true, false, None, ap, drop, get_or, length, take, ◌∙◌, arith}
use Rattle.std.proofs.lemmas.List.{get_or_default}
use Rattle.pi_tuple.specs.Tuples.{tuple_in}
use Rattle.mirror_laws.specs.Mirror.{fresh}
use Rattle.mirror_laws.specs.declared.marks.Marks.{Marks}
use Rattle.mirror_volume.specs.declared.piece.Piece.{Piece}
use Rattle.mirror_volume.specs.Inner.{write_script}
use Rattle.mirror_volume.specs.Helds.{goods_in, so_far}
use Rattle.mirror_volume.specs.Mending.{need_by}
use Rattle.mirror_volume.proofs.Helds.{bit-at, good-here, none-here}
use Rattle.mirror_volume.proofs.Mended.{mends-fine, mends-lost, mends-on0, mends-on1}
use Rattle.mirror_volume.proofs.Running.{none-run, run-so}
use Rattle.mirror_volume.proofs.repair.mend_block.Goals as goal

pub returns-in-true-true-clause-ran : goal.returns-in-true-true-clause-ran
returns-in-true-true-clause-ran g c =
    let s = c.args.plan.now.script in
    let i = c.args.i in
    let h0 = c.args.held0.now in
    let h1 = c.args.held1.now in
    let b = c.requires.block in
    let l0 : i < length h0.good.items = (let k = c.requires.held.on0.good in omega (arith, b, k)) in
    let l1 : i < length h1.good.items = (let k = c.requires.held.on1.good in omega (arith, b, k)) in
    let e0 = good-here s.block h0.good.items h0.bytes.items h0.tuples.items i (bit-at h0.good.items i c.index.result.now true l0 c.index.ensures c.in-true-true.is-0) in
    let e1 = good-here s.block h1.good.items h1.bytes.items h1.tuples.items i (bit-at h1.good.items i c.index-2.result.now true l1 c.index-2.ensures c.in-true-true.is-1) in
    let need = need_by (get_or (goods_in s.block h0) i None) (get_or (goods_in s.block h1) i None) in
    let old = so_far c.args.marks.now c.args.done.now in
    none-run _ (mends-fine s c.args.plan.now.half c.args.whole.n (c.args.whole.v + i) need old (λ j. need_by (e0 j) (e1 j)))

pub returns-in-false-false-clause-ran : goal.returns-in-false-false-clause-ran
returns-in-false-false-clause-ran g c =
    let s = c.args.plan.now.script in
    let i = c.args.i in
    let h0 = c.args.held0.now in
    let h1 = c.args.held1.now in
    let b = c.requires.block in
    let l0 : i < length h0.good.items = (let k = c.requires.held.on0.good in omega (arith, b, k)) in
    let l1 : i < length h1.good.items = (let k = c.requires.held.on1.good in omega (arith, b, k)) in
    let e0 = none-here s.block h0.good.items h0.bytes.items h0.tuples.items i (bit-at h0.good.items i c.index.result.now false l0 c.index.ensures c.in-false-false.is-0) in
    let e1 = none-here s.block h1.good.items h1.bytes.items h1.tuples.items i (bit-at h1.good.items i c.index-2.result.now false l1 c.index-2.ensures c.in-false-false.is-1) in
    let need = need_by (get_or (goods_in s.block h0) i None) (get_or (goods_in s.block h1) i None) in
    let old = so_far c.args.marks.now c.args.done.now in
    none-run _ (mends-lost s c.args.plan.now.half c.args.whole.n (c.args.whole.v + i) need old (λ j. need_by (e0 j) (e1 j)))

pub returns-in_ok-is_accepted-in-true-false-clause-ran : goal.returns-in_ok-is_accepted-in-true-false-clause-ran
returns-in_ok-is_accepted-in-true-false-clause-ran g c =
    let s = c.args.plan.now.script in
    let half = c.args.plan.now.half in
    let whole = c.args.whole in
    let i = c.args.i in
    let h0 = c.args.held0.now in
    let h1 = c.args.held1.now in
    let b = c.requires.block in
    let l0 : i < length h0.good.items = (let k = c.requires.held.on0.good in omega (arith, b, k)) in
    let l1 : i < length h1.good.items = (let k = c.requires.held.on1.good in omega (arith, b, k)) in
    let e0 = good-here s.block h0.good.items h0.bytes.items h0.tuples.items i (bit-at h0.good.items i c.index.result.now true l0 c.index.ensures c.in-true-false.is-0) in
    let e1 = none-here s.block h1.good.items h1.bytes.items h1.tuples.items i (bit-at h1.good.items i c.index-2.result.now false l1 c.index-2.ensures c.in-true-false.is-1) in
    let from = c.args.held0.now in
    let x = c.in_ok-is_accepted-in-true-false.ensures.ran in
    let o = x.came in
    let app = (tuple_in (drop (8 * i) from.tuples.items)).app in
    let body = take s.block (drop (i * s.block) from.bytes.items) in
    let own = o.own_is ∙ ap (λ (q : Piece). write_script s half (record q { n = 1; v = whole.v + i; on1 = true }) app body) c.requires.stretch.all in
    let inside = c.requires.stretch.piece.inside in
    let marked = c.requires.marks in
    let lies : whole.v + i < length c.args.marks.now = omega (arith, b, inside, marked) in
    let stale : Marks = record { leg0 = false; leg1 = false } in
    let same = get_or_default c.args.marks.now (whole.v + i) stale fresh lies in
    let need = need_by (get_or (goods_in s.block h0) i None) (get_or (goods_in s.block h1) i None) in
    let old = so_far c.args.marks.now c.args.done.now in
    run-so _ x (λ s h. h)
    (mends-on1 s half whole.n (whole.v + i) need old (record { body = body; app = app }) x.runs o.run c.in_ok-is_accepted-in-true-false.is_accepted (get_or c.args.marks.now (whole.v + i) stale) c.from.result c.from.ensures (λ j. need_by (e0 j) (e1 j)) o.only own o.so same)

pub returns-in_ok-is_accepted-in-false-true-clause-ran : goal.returns-in_ok-is_accepted-in-false-true-clause-ran
returns-in_ok-is_accepted-in-false-true-clause-ran g c =
    let s = c.args.plan.now.script in
    let half = c.args.plan.now.half in
    let whole = c.args.whole in
    let i = c.args.i in
    let h0 = c.args.held0.now in
    let h1 = c.args.held1.now in
    let b = c.requires.block in
    let l0 : i < length h0.good.items = (let k = c.requires.held.on0.good in omega (arith, b, k)) in
    let l1 : i < length h1.good.items = (let k = c.requires.held.on1.good in omega (arith, b, k)) in
    let e0 = none-here s.block h0.good.items h0.bytes.items h0.tuples.items i (bit-at h0.good.items i c.index.result.now false l0 c.index.ensures c.in-false-true.is-0) in
    let e1 = good-here s.block h1.good.items h1.bytes.items h1.tuples.items i (bit-at h1.good.items i c.index-2.result.now true l1 c.index-2.ensures c.in-false-true.is-1) in
    let from = c.args.held1.now in
    let x = c.in_ok-is_accepted-in-false-true.ensures.ran in
    let o = x.came in
    let app = (tuple_in (drop (8 * i) from.tuples.items)).app in
    let body = take s.block (drop (i * s.block) from.bytes.items) in
    let own = o.own_is ∙ ap (λ (q : Piece). write_script s half (record q { n = 1; v = whole.v + i }) app body) c.requires.stretch.all in
    let inside = c.requires.stretch.piece.inside in
    let marked = c.requires.marks in
    let lies : whole.v + i < length c.args.marks.now = omega (arith, b, inside, marked) in
    let stale : Marks = record { leg0 = false; leg1 = false } in
    let same = get_or_default c.args.marks.now (whole.v + i) stale fresh lies in
    let need = need_by (get_or (goods_in s.block h0) i None) (get_or (goods_in s.block h1) i None) in
    let old = so_far c.args.marks.now c.args.done.now in
    run-so _ x (λ s h. h)
    (mends-on0 s half whole.n (whole.v + i) need old (record { body = body; app = app }) x.runs o.run c.in_ok-is_accepted-in-false-true.is_accepted (get_or c.args.marks.now (whole.v + i) stale) c.from-in-false-true.result c.from-in-false-true.ensures (λ j. need_by (e0 j) (e1 j)) o.only own o.so same)
