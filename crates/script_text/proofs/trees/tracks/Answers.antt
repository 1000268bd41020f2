use Rattle.std.proofs.Common.{sym, subst, refl, ◌∙◌}
use Rattle.volume_tree.specs.Tracks.{tracks_of}
use Rattle.volume_tree.specs.Trees.{AreTracks}
use Rattle.volume_tree.proofs.Following.{tracks_push}
use Rattle.script_text.proofs.Tracking.{next_bad, next_value}
use Rattle.script_text.proofs.trees.tracks.Goals as goal

pub loop-volume-preserved : goal.loop-volume-preserved
loop-volume-preserved c = record {
  value = next_value c.args.inner.now c.args.volumes.now c.loop-volume.volume-index _ c.loop-volume.tracks.items c.add.new.list.items c.in_ok-track.field-0 c.loop-volume-test.true refl c.in_ok-add.ensures.added c.in_ok-track.ensures.value.0 c.loop-volume.invariant.value;
  bad = next_bad c.args.inner.now c.args.volumes.now c.loop-volume.volume-index _ c.loop-volume-test.true refl c.in_ok-track.ensures.value.1 ∙ c.loop-volume.invariant.bad;
  tracks = subst (λ vs. AreTracks (tracks_of vs)) (sym c.in_ok-add.ensures.added) (tracks_push c.loop-volume.tracks.items c.in_ok-track.field-0 c.loop-volume.invariant.tracks c.in_ok-track.ensures.follows);
}
