use Rattle.std.proofs.Common.{◌<◌, ◌-◌, length, ap, ◌∙◌, arith, zero-add}
use Rattle.std.proofs.Math.Facts.{Fits-of_lt}
use Rattle.std.specs.Int.{w64}
use Rattle.volume_tree.specs.Tracks.{end_of, track_len}
use Rattle.volume_tree.proofs.Following.{extent_at, last_end}
use Rattle.volume_tree.proofs.track.track_len.Goals as goal

pub overflow_add-result : goal.overflow_add-result
overflow_add-result c =
    let some : 0 < length c.args.track.now = c.in-Some.ensures.item.3.0 in
    let x = rw (← c.in-Some.ensures.item.1) at (extent_at 0 c.args.track.now (length c.args.track.now - 1) c.in-Some.last.now c.requires (omega (arith, some))) in
    Fits-of_lt {w = w64} x.end

pub returns-in-Some : goal.returns-in-Some
returns-in-Some c = ap end_of c.in-Some.ensures.item.1 ∙ last_end 0 c.args.track.now c.in-Some.last.now c.requires c.in-Some.ensures.item.3.0 ∙ zero-add (track_len c.args.track.now)
