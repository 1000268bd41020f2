use Rattle.std.proofs.Common.{◌≡◌, ◌*◌, ◌≤◌, ◌++◌, drop}
use Rattle.std.specs.List.{list_any}
use Rattle.volume_tree.specs.Tracks.{FollowsFrom, track_len}
use Rattle.script_text.specs.Trees.{is_past, track_from}
use Rattle.script_text.proofs.trees.track.Given as goal

abbrev pub invariant-loop-extent : goal.invariant-loop-extent
invariant-loop-extent l = record {
  track : l.track.items ++ track_from l.start l.volume (drop l.extent-index l.inner) ≡ track_from 0 l.volume l.inner;
  past : list_any (is_past l.volume) (drop l.extent-index l.inner) ≡ list_any (is_past l.volume) l.inner;
  follows : FollowsFrom 0 l.track.items;
  start : l.start ≡ track_len l.track.items;
  bound : l.start ≤ 1048576 * l.extent-index;
}
