use Rattle.std.proofs.Common.{◌≡◌, ◌++◌, drop}
use Rattle.std.specs.List.{list_any}
use Rattle.volume_tree.specs.Tracks.{tracks_of}
use Rattle.volume_tree.specs.Trees.{AreTracks}
use Rattle.script_text.specs.Trees.{is_bad_volume, tracks_in}
use Rattle.script_text.proofs.trees.tracks.Given as goal

abbrev pub invariant-loop-volume : goal.invariant-loop-volume
invariant-loop-volume l = record {
  value : tracks_of l.tracks.items ++ tracks_in l.inner (drop l.volume-index l.volumes) ≡ tracks_in l.inner l.volumes;
  bad : list_any (is_bad_volume l.inner) (drop l.volume-index l.volumes) ≡ list_any (is_bad_volume l.inner) l.volumes;
  tracks : AreTracks (tracks_of l.tracks.items);
}
