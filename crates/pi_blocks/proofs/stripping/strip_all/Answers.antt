use Rattle.std.proofs.Common.{rules, ◌≡◌, ◌+◌, ◌-◌, ◌*◌, ◌<◌, ◌≤◌, ◌∙◌, div-mul-le_self, mul-le-mul_right, min, length, ap, subst, arith}
use Rattle.pi_blocks.specs.Blocks.{Checked, in_line}
use Rattle.pi_blocks.specs.Layouts.{stride_of}
use Rattle.pi_blocks.specs.Stripped.{AreStripped, bad_byte, bytes_for, marks}
use Rattle.pi_blocks.proofs.Bitmaps.{blocks_by_next, blocks_in, few_left, fine_at_first, left_at_first, marks_more}
use Rattle.pi_blocks.proofs.Puts.{puts_none}
use Rattle.pi_blocks.proofs.stripping.strip_all.Goals as goal

pub loop-k-init : goal.loop-k-init
loop-k-init c =
    let l = c.args.layout.now in
    let w = c.args.want.now in
    let blocks = c.args.blocks.now in
    let n = c.in_ok-count.count in
    record {
      told = fine_at_first l w blocks n;
      moved = left_at_first l w blocks c.args.body.now n;
      marked = puts_none (λ m. m) (bad_byte l w blocks n) 0 c.args.bad.now;
    }

pub strip_some-marks-requires-clause-inside : goal.strip_some-marks-requires-clause-inside
strip_some-marks-requires-clause-inside c =
    let n = c.in_ok-count.count in
    let k = c.loop-k.k in
    let size = stride_of c.args.layout.now in
    let len = length c.args.blocks.now in
    let lt : k < bytes_for n = omega (arith, c.loop-k-test.true, c.bytes_for-size.ensures) in
    let few : c.min-few.result ≡ min (n - 8 * k) 8 = c.min-few.ensures in
    let upto : 8 * k + c.min-few.result ≤ n = let left = few_left k n lt in omega (arith, few, left) in
    let part : (8 * k + c.min-few.result) * size ≤ n * size = mul-le-mul_right size upto in
    let count = (c.in_ok-count.ensures.count).1 in
    let all = ap (λ m. m * size) count in
    let whole = div-mul-le_self len size in
    omega (arith, part, all, whole)

pub loop-k-preserved : goal.loop-k-preserved
loop-k-preserved c =
    let h = c.loop-k.invariant in
    let l = c.args.layout.now in
    let w = c.args.want.now in
    let blocks = c.args.blocks.now in
    let n = c.in_ok-count.count in
    let k = c.loop-k.k in
    let some = c.strip_some-marks in
    let lt : k < bytes_for n = omega (arith, c.loop-k-test.true, c.bytes_for-size.ensures) in
    let few : c.min-few.result ≡ min (n - 8 * k) 8 = c.min-few.ensures in
    let next : 8 * k + c.min-few.result ≡ min (8 * (k + 1)) n = ap (λ m. 8 * k + m) few ∙ blocks_by_next k n lt in
    let here = blocks_in k n lt in
    let inside : c.loop-k.k < length c.loop-k.bad = search rules in
    record {
      told = subst (λ m. Checked l w (in_line l blocks) 0 m some.result.1) next (some.ensures.told (subst (λ m. Checked l w (in_line l blocks) 0 m c.loop-k.found) here h.told));
      moved = subst (λ m. AreStripped l w m blocks c.args.body.now some.new.body) next (some.ensures.moved c.args.body.now (subst (λ m. AreStripped l w m blocks c.args.body.now c.loop-k.body) here h.moved));
      marked = marks_more l w blocks n k some.result.0 c.args.bad.now c.loop-k.bad inside (some.ensures.marks ∙ ap (marks l w blocks (8 * k)) few) h.marked;
    }
