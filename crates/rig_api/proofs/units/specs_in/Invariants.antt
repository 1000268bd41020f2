use Rattle.std.proofs.Common.{◌≡◌, ◌*◌, ◌-◌, ◌++◌, ◌≤◌, length, drop}
use Rattle.arrayvec.specs.ArrayVec.{array_vec_len}
use Rattle.rig_api.specs.Headers.{specs_from}
use Rattle.rig_api.proofs.units.specs_in.Given as goal

abbrev pub invariant-loop : goal.invariant-loop
invariant-loop l = record {
  items : specs_from l.version l.count (drop 16 l.first) ≡ l.units.items ++ specs_from l.version (l.count - l.counter) l.rest;
  len : array_vec_len l.units ≡ l.counter;
  room : 32 * (l.count - l.counter) ≤ length l.rest;
  few : l.count ≤ 8;
}
