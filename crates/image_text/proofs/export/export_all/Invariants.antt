use Rattle.std.proofs.Common.{◌≡◌, length}
use Rattle.image_blocks.specs.Images.{units_open}
use Rattle.image_blocks.specs.Places.{IsStretch}
use Rattle.dix_base.specs.Stores.{WasRead}
use Rattle.image_text.proofs.Dumping.{SoFar}
use Rattle.image_text.proofs.export.export_all.Given as goal

abbrev pub invariant-loop-left : goal.invariant-loop-left
invariant-loop-left g l = record {
  there : IsStretch (units_open l.image) l.left;
  pieces : SoFar l.layout (units_open l.image) l.fn.place l.left (g.S.Store.state l.initial.store).bytes (g.O.Sink.taken l.initial.out) (g.O.Sink.taken l.out);
  room : length l.room ≡ length l.initial.room;
  store : WasRead (g.S.Store.state l.initial.store) (g.S.Store.state l.store);
  sinks : g.O.Sink.faults l.out ≡ g.O.Sink.faults l.initial.out;
}

abbrev pub decreases-loop-left : goal.decreases-loop-left
decreases-loop-left g l = l.left.count
