use Rattle.std.proofs.Common.{◌≡◌, ◌≤◌, length}
use Rattle.image_blocks.specs.Images.{units_open}
use Rattle.image_blocks.specs.Places.{IsStretch}
use Rattle.dix_base.specs.Stores.{WasWritten}
use Rattle.image_text.specs.Ends.{KeepsOutside}
use Rattle.image_text.proofs.Importing.{SoFar}
use Rattle.image_text.proofs.import.take_all.Given as goal

abbrev pub invariant-loop-left : goal.invariant-loop-left
invariant-loop-left g l = record {
  there : IsStretch (units_open l.image) l.left;
  apart : KeepsOutside (units_open l.image) l.fn.place (g.S.Store.state l.initial.store).bytes (g.S.Store.state l.store).bytes;
  taken : SoFar l.layout (units_open l.image) l.fn.place l.left l.done (g.S.Store.state l.initial.store).bytes (g.S.Store.state l.store).bytes (g.R.Source.left l.initial.source) (g.R.Source.left l.source);
  pieces : length l.pieces ≡ length l.initial.pieces;
  frames : length l.frames ≡ length l.initial.frames;
  store : WasWritten (g.S.Store.state l.initial.store) (g.S.Store.state l.store);
  calm : g.R.Source.faults l.source ≡ g.R.Source.faults l.initial.source;
  sources : g.R.Source.faults l.initial.source ≤ g.R.Source.faults l.source;
}

abbrev pub decreases-loop-left : goal.decreases-loop-left
decreases-loop-left g l = l.left.count
