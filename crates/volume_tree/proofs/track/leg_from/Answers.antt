use Rattle.std.proofs.Common.{arith}
use Rattle.std.proofs.Math.Facts.{Fits-of_lt}
use Rattle.std.specs.Int.{w64}
use Rattle.volume_tree.proofs.Following.{extent_at}
use Rattle.volume_tree.proofs.track.leg_from.Goals as goal

pub overflow_add-extent : goal.overflow_add-extent
overflow_add-extent c = Fits-of_lt {w = w64} (extent_at 0 c.args.track.now c.loop-extent.extent-index _ c.requires c.loop-extent-test.true).end

pub place-dev-requires-clause-fits : goal.place-dev-requires-clause-fits
place-dev-requires-clause-fits c =
    let e = extent_at 0 c.args.track.now c.loop-extent.extent-index (record { start = 0; len = 0; dev = 0; at = 0 }) c.requires c.loop-extent-test.true in
    omega (arith, e.device_end, c.if-extent-x.true, c.if-x-extent.true)
