use Rattle.std.proofs.Common.{◌≡◌, ◌++◌, drop, map}
use Rattle.volume_tree.specs.Tracks.{tracks_of}
use Rattle.volume_tree.specs.Trees.{AreTracks, leg_from}
use Rattle.volume_tree.proofs.expanding.legs_from.Given as goal

abbrev pub invariant-loop-leg : goal.invariant-loop-leg
invariant-loop-leg l = record {
  tracks : AreTracks (tracks_of (drop l.leg-index l.legs));
  legs : l.found.items ++ map (leg_from l.x) (tracks_of (drop l.leg-index l.legs)) ≡ map (leg_from l.x) (tracks_of l.legs);
}
