use Rattle.std.proofs.Common.{◌≡◌, ◌+◌, ◌*◌, ◌≤◌, take}
use Rattle.rig_api.specs.Headers.{all_bytes}
use Rattle.image_rig.proofs.layout_place.place_of.Given as goal

abbrev pub invariant-loop-i : goal.invariant-loop-i
invariant-loop-i l = record {
  sum : l.place ≡ 512 + all_bytes (take l.i l.units);
  small : l.place ≤ 512 + l.i * (65536 * 520);
}
