use Rattle.std.proofs.Common.{◌++◌, take}
use Rattle.dix_base.specs.Stores.{WasExtended}
use Rattle.dix_base.specs.Told.{Appended}
use Rattle.rig_api.specs.Headers.{header, version_for}
use Rattle.rig_api.specs.Image.{fresh_bytes}
use Rattle.image_rig.proofs.formatting.append_formatted.Given as goal

abbrev pub invariant-loop-unit : goal.invariant-loop-unit
invariant-loop-unit g l = record {
  appended : Appended (header (version_for l.units) l.units ++ fresh_bytes (take l.unit-index l.units)) (g.S.Store.state l.fn.store).bytes (g.S.Store.state l.store).bytes;
  store : WasExtended (g.S.Store.state l.fn.store) (g.S.Store.state l.store);
}
