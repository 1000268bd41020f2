use Rattle.std.proofs.Common.{◌≡◌}
use Rattle.image_blocks.specs.Images.{units_open}
use Rattle.image_blocks.specs.Places.{IsStretch}
use Rattle.dix_base.specs.Stores.{WasRead}
use Rattle.image_text.specs.Compared.{places}
use Rattle.image_text.proofs.Comparing.{SoFar}
use Rattle.image_text.proofs.diff_walk.diff_lines.Given as goal

abbrev pub invariant-loop-left : goal.invariant-loop-left
invariant-loop-left g l = record {
  there : IsStretch (units_open l.sides.image.now) l.left;
  other_there : IsStretch (units_open l.sides.other_image.now) l.other_left;
  lines : SoFar (places (units_open l.sides.image.now) l.sides.place (units_open l.sides.other_image.now) l.sides.to) l.left l.other_left (g.S.Store.state l.initial.store).bytes (g.T.Store.state l.initial.other).bytes l.differ (g.O.Sink.taken l.initial.out) (g.O.Sink.taken l.out);
  first : WasRead (g.S.Store.state l.initial.store) (g.S.Store.state l.store);
  second : WasRead (g.T.Store.state l.initial.other) (g.T.Store.state l.other);
  sinks : g.O.Sink.faults l.out ≡ g.O.Sink.faults l.initial.out;
}

abbrev pub decreases-loop-left : goal.decreases-loop-left
decreases-loop-left g l = l.left.count
