use Rattle.std.proofs.Common.{sym, subst}
use Rattle.volume_tree.specs.Tracks.{tracks_of}
use Rattle.volume_tree.specs.Trees.{AreTracks}
use Rattle.volume_tree.proofs.Following.{tracks_push}
use Rattle.volume_rows.proofs.trees.tracks.Goals as goal

pub loop-leg-preserved : goal.loop-leg-preserved
loop-leg-preserved c = subst (λ vs. AreTracks (tracks_of vs)) (sym c.in_ok-push.ensures.items) (tracks_push c.loop-leg.all.items c.in_ok-track.field-0 c.loop-leg.invariant c.in_ok-track.ensures)
