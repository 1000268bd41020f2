use Rattle.std.proofs.Common.{◌≡◌}
use Rattle.volume_tree.specs.Tracks.{FollowsFrom, track_len}
use Rattle.volume_rows.proofs.trees.track.Given as goal

abbrev pub invariant-loop-part : goal.invariant-loop-part
invariant-loop-part l = record {
  follows : FollowsFrom 0 l.track.items;
  start : l.start ≡ track_len l.track.items;
}
