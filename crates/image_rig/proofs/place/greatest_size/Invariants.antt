use Rattle.std.proofs.Common.{◌≡◌, take}
use Rattle.rig_api.specs.Telling.{greatest}
use Rattle.image_rig.proofs.place.greatest_size.Given as goal

abbrev pub invariant-loop-unit : goal.invariant-loop-unit
invariant-loop-unit l = record { most : l.most ≡ greatest (take l.unit-index l.units) }
