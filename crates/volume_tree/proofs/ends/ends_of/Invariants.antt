use Rattle.std.proofs.Common.{◌≡◌, drop}
use Rattle.volume_tree.specs.Tracks.{ends, put_all, tracks_of}
use Rattle.volume_tree.specs.Trees.{AreTracks}
use Rattle.volume_tree.proofs.ends.ends_of.Given as goal

abbrev pub invariant-loop-leg : goal.invariant-loop-leg
invariant-loop-leg l = record {
  tracks : AreTracks (tracks_of (drop l.leg-index l.legs));
  put : put_all l.found.items (tracks_of (drop l.leg-index l.legs)) ≡ ends (tracks_of l.legs);
}
