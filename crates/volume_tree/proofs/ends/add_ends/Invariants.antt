use Rattle.std.proofs.Common.{◌≡◌, drop}
use Rattle.volume_tree.specs.Tracks.{put_ends}
use Rattle.volume_tree.proofs.ends.add_ends.Given as goal

abbrev pub invariant-loop-extent : goal.invariant-loop-extent
invariant-loop-extent l = put_ends l.ends.items (drop l.extent-index l.track) ≡ put_ends l.initial.ends.items l.track
