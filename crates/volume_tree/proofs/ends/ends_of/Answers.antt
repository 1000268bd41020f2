use Rattle.std.proofs.Common.{length, refl, subst, ◌<◌}
use Rattle.volume_tree.specs.Tracks.{put_ends}
use Rattle.volume_tree.proofs.Following.{next_track}
use Rattle.volume_tree.proofs.Putting.{next_all}
use Rattle.volume_tree.proofs.ends.ends_of.Goals as goal

pub returns-then-not-add_ends-clause-none : goal.returns-then-not-add_ends-clause-none
returns-then-not-add_ends-clause-none c =
    let big = subst (λ t. 16 < length (put_ends c.loop-leg.found.items t)) c.as_slice.ensures.value (c.if-not-add_ends.ensures.full refl) in
    next_all c.loop-leg.found.items c.leg-item.result.items _ _ _ (next_track c.args.legs.now c.loop-leg.leg-index c.leg-item.result c.loop-leg-test.true c.leg-item.is) c.loop-leg.invariant.put big
