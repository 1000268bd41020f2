use Rattle.std.proofs.Common.{◌≡◌, ◌+◌, ◌*◌, ◌++◌, take}
use Rattle.std.specs.Prelude.{map}
use Rattle.arrayvec.specs.ArrayVec.{array_vec_len}
use Rattle.rig_api.specs.Frames.{joined}
use Rattle.rig_api.specs.Headers.{entry_of, entry_size}
use Rattle.rig_api.proofs.units.header.Given as goal

abbrev pub invariant-loop-unit : goal.invariant-loop-unit
invariant-loop-unit l = record {
  items : l.out.items ≡ l.initial.out.items ++ joined (map (entry_of l.version) (take l.unit-index l.units));
  len : array_vec_len l.out ≡ 16 + entry_size l.version * l.unit-index;
}
