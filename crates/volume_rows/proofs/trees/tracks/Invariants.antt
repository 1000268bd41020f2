use Rattle.volume_tree.specs.Tracks.{tracks_of}
use Rattle.volume_tree.specs.Trees.{AreTracks}
use Rattle.volume_rows.proofs.trees.tracks.Given as goal

abbrev pub invariant-loop-leg : goal.invariant-loop-leg
invariant-loop-leg l = AreTracks (tracks_of l.all.items)
