use Rattle.std.proofs.Common.{◌≡◌, Some, ap, sym, subst, ◌∙◌}
use Rattle.script_words.specs.Cuts.{parts}
use Rattle.script_words.specs.Places.{segs_in, segs_of}
use Rattle.script_words.proofs.Cutting.{bad_last, bad_seg, joined, last_seg, next_seg}
use Rattle.script_words.proofs.places.segments.Goals as goal

pub returns-in_default-segment : goal.returns-in_default-segment
returns-in_default-segment c = bad_seg c.loop-first.segs.items c.loop-first.rest.now c.in-Some.first.now c.in-Some.behind.now (segs_in c.args.word.now) c.loop-first.invariant c.in-Some.ensures.some (sym c.in_default-segment.ensures)

pub loop-first-preserved : goal.loop-first-preserved
loop-first-preserved c =
    let next = next_seg c.loop-first.segs.items c.loop-first.rest.now c.in-Some.first.now c.in-Some.behind.now c.in-Some-segment.seg (segs_in c.args.word.now) c.loop-first.invariant c.in-Some.ensures.some c.in-Some-segment.ensures in
    subst (λ s. joined s (segs_of (parts 44 c.in-Some.behind.now)) ≡ segs_in c.args.word.now) (sym c.in_ok-push.ensures.items) next

pub returns-in_default-segment-2 : goal.returns-in_default-segment-2
returns-in_default-segment-2 c = bad_last c.loop-first.segs.items c.loop-first.rest.now (segs_in c.args.word.now) c.loop-first.invariant c.in_default.ensures.none (sym c.in_default-segment-2.ensures)

pub returns : goal.returns
returns c = ap Some c.in_ok-push-2.ensures.items ∙ last_seg c.loop-first.segs.items c.loop-first.rest.now c.in-Some-segment-2.seg (segs_in c.args.word.now) c.loop-first.invariant c.in_default.ensures.none c.in-Some-segment-2.ensures
