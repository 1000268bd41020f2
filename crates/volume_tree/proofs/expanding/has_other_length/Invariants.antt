use Rattle.std.proofs.Common.{◌≡◌, drop}
use Rattle.std.specs.List.{list_any}
use Rattle.volume_tree.specs.Tracks.{tracks_of}
use Rattle.volume_tree.specs.Trees.{AreTracks, is_other_length}
use Rattle.volume_tree.proofs.expanding.has_other_length.Given as goal

abbrev pub invariant-loop-leg : goal.invariant-loop-leg
invariant-loop-leg l = record {
  tracks : AreTracks (tracks_of (drop l.leg-index l.legs));
  answer : list_any (is_other_length l.len) (tracks_of (drop l.leg-index l.legs)) ≡ list_any (is_other_length l.len) (tracks_of l.legs);
}
