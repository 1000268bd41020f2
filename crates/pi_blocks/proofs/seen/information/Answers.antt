use Rattle.std.proofs.Common.{◌≡◌, ◌+◌, ◌≤◌, slice_index, refl, sym, subst, arith}
use Rattle.pi_blocks.specs.Seen.{Informs}
use Rattle.pi_blocks.proofs.Seeing.{next-place, none-informs, one-less}
use Rattle.pi_blocks.proofs.seen.information.Goals as goal
use Rattle.pi_blocks.proofs.seen.information.Goals.{else-bytes-at-eq0-via-then-bytes-at-eq0+then-bytes-at-eq10+else-bytes-at-ge128, else-bytes-at-eq0-via-then-bytes-at-eq0+else-bytes-at-eq10, else-bytes-at-eq0-via-else-bytes-at-eq0}

pub loop-at-preserved : goal.loop-at-preserved
loop-at-preserved c =
    let b = c.args.bytes.now in
    let at = c.loop-at.at in
    let h = c.loop-at.invariant in
    let same = h.there in
    let not : ¬ Informs b h.k = λ i. (
    let kind = subst (λ n. slice_index b n ≡ 0) (sym same) i.kind in
    let long = subst (λ n. slice_index b (n + 1) ≡ 10) (sym same) i.long in
    let valid = subst (λ n. 128 ≤ slice_index b (n + 2)) (sym same) i.valid in
    elim c.else-bytes-at-eq0.branch [
      | else-bytes-at-eq0-via-then-bytes-at-eq0+then-bytes-at-eq10+else-bytes-at-ge128 w ↦ (let under = w.if-bytes-at-ge128.false in omega (arith, valid, under))
      | else-bytes-at-eq0-via-then-bytes-at-eq0+else-bytes-at-eq10 w ↦ w.if-bytes-at-eq10.false long
      | else-bytes-at-eq0-via-else-bytes-at-eq0 w ↦ w.if-bytes-at-eq0.false kind
    ]) in
    record { k = h.k + 1; near = (let byte = c.type_inv.bytes (at + 1) in let short = c.loop-at-test.true in let near = c.end_of-end.ensures.near in omega (arith, byte, short, near)); there = next-place b at (at + (2 + slice_index b (at + 1))) h.k same refl; none = one-less b h.k h.none not }

pub returns : goal.returns
returns c =
    let h = c.loop-at.invariant in
    none-informs c.args.bytes.now c.loop-at.at h.k h.there (λ inside. let over = c.loop-at-test.false in let end = c.end_of-end.ensures.end in omega (arith, over, end, inside)) h.none
