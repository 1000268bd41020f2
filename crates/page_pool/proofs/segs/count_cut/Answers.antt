use Rattle.std.proofs.Common.{◌≡◌, ◌+◌, ◌-◌, ◌<◌, ◌≤◌, min, length, drop, inl, inr, arith, ◌∙◌, ap, ◌⊎◌}
use Rattle.page_pool.specs.declared.segs.Seg.{Seg}
use Rattle.page_pool.specs.Cuts.{cut}
use Rattle.page_pool.proofs.Cutting.{counted}
use Rattle.page_pool.proofs.segs.count_cut.Goals as goal
use Rattle.page_pool.proofs.segs.count_cut.Goals.{then-here-gt0, else-here-gt0}

pub loop-s-preserved : goal.loop-s-preserved
loop-s-preserved c =
    let none : Seg = record { page = 0; off = 0; len = 0 } in
    let here = c.min-here.ensures ∙ ap (λ n. min n c.loop-s.left) c.saturating_sub.ensures in
    let step : ((0 < c.min-here.result) × (c.if-here-gt0.count ≡ c.loop-s.count + 1)) ⊎ ((c.min-here.result ≡ 0) × (c.if-here-gt0.count ≡ c.loop-s.count)) =
    elim c.if-here-gt0.branch [ then-here-gt0 w ↦ inl (omega arith, w.count-is) | else-here-gt0 w ↦ inr (omega arith, w.count-is) ] in
    let more = counted c.args.segs.now none c.loop-s.s-index c.loop-s.count c.if-here-gt0.count c.loop-s.at c.loop-s.left c.min-here.result (omega arith) here step in
    let moved = ap (λ n. length (cut (drop (c.loop-s.s-index + 1) c.args.segs.now) n (c.loop-s.left - c.min-here.result))) c.saturating_sub-at.ensures in
    let before = c.loop-s.invariant.so_far in
    let room = c.loop-s.invariant.room in
    let most : c.if-here-gt0.count + (c.loop-s.left - c.min-here.result) ≤ c.args.len =
    elim step [ inl w ↦ let a = w.0 in let b = w.1 in omega arith | inr w ↦ let a = w.0 in let b = w.1 in omega arith ] in
    record { so_far = omega arith; room = most }
