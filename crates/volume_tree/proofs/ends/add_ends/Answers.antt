use Rattle.std.proofs.Common.{refl}
use Rattle.std.proofs.Math.Facts.{Fits-of_lt}
use Rattle.std.specs.Int.{w64}
use Rattle.volume_tree.proofs.Following.{extent_at}
use Rattle.volume_tree.proofs.Putting.{next_ends}
use Rattle.volume_tree.proofs.ends.add_ends.Goals as goal

pub overflow_add-extent : goal.overflow_add-extent
overflow_add-extent c = Fits-of_lt {w = w64} (extent_at 0 c.args.track.now c.loop-extent.extent-index _ c.requires c.loop-extent-test.true).end

pub returns-then-not-add-clause-full : goal.returns-then-not-add-clause-full
returns-then-not-add-clause-full c u =
    let big = c.if-not-add.ensures.full refl in
    next_ends c.loop-extent.ends.items c.args.track.now c.loop-extent.extent-index _ c.loop-extent-test.true _ c.loop-extent.invariant big
