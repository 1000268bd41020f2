use Rattle.std.proofs.Common.{◌≡◌, take, replicate, length}
use Rattle.dix_base.specs.Stores.{WasExtended}
use Rattle.dix_base.specs.Told.{Appended}
use Rattle.rig_api.specs.Frames.{joined, stored_size}
use Rattle.rig_api.specs.Image.{fresh_from}
use Rattle.image_rig.proofs.formatting.append_blocks.Given as goal

abbrev pub invariant-loop-k : goal.invariant-loop-k
invariant-loop-k g l = record {
  long : length l.frame ≡ stored_size l.unit.ty l.unit.size;
  zeros : take l.unit.size l.frame ≡ replicate l.unit.size 0;
  appended : Appended (joined (fresh_from l.unit.ty l.unit.size l.unit.first l.k)) (g.S.Store.state l.initial.store).bytes (g.S.Store.state l.store).bytes;
  store : WasExtended (g.S.Store.state l.initial.store) (g.S.Store.state l.store);
}
