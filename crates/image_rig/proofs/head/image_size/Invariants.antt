use Rattle.std.proofs.Common.{◌≡◌, ◌+◌, ◌*◌, ◌≤◌, take}
use Rattle.rig_api.specs.Headers.{all_bytes}
use Rattle.image_rig.proofs.head.image_size.Given as goal

abbrev pub invariant-loop-unit : goal.invariant-loop-unit
invariant-loop-unit l = record {
  sum : l.size ≡ 512 + all_bytes (take l.unit-index l.units);
  small : l.size ≤ 512 + l.unit-index * (65536 * 520);
}
