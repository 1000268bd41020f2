use Rattle.std.proofs.Common.{◌≡◌, drop, find}
use Rattle.volume_tree.specs.Tracks.{is_held}
use Rattle.volume_tree.proofs.track.leg_from.Given as goal

abbrev pub invariant-loop-extent : goal.invariant-loop-extent
invariant-loop-extent l = find (is_held l.x) (drop l.extent-index l.track) ≡ find (is_held l.x) l.track
