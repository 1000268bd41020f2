-- A device that is told has the size of its unit.
use Rattle.std.proofs.Common.{ℕ, ◌≡◌, Bool, true, false, Option, Some, None, sym, ap}
use Rattle.std.specs.Prelude.{if◌then◌else◌, slice_index}
use Rattle.std.proofs.lemmas.Option.{none-some, same_Some}
use Rattle.pi_tuple.specs.declared.checks.PiType.{PiType}
use Rattle.cdb_codec.specs.Decoded.{eight_at, four_at}
use Rattle.rig_api.specs.Telling.{Standing, spec_at}
use Rattle.rig_discovery.specs.Answers.{info_with, is_fault, type_told}
use Rattle.rig_discovery.specs.Discovery.{LookAnswer, told}
use Rattle.volume_table.specs.declared.device.DeviceInfo.{DeviceInfo}

pub told_size : (s : Standing) (dev : ℕ) (a : LookAnswer) (d : DeviceInfo) → told s dev a ≡ Some d → d.size ≡ (spec_at s dev).size
told_size s dev a d e = by (is_fault (spec_at s dev).first (spec_at s dev).size a.outcome (eight_at a.bytes 0) (four_at a.bytes 8)) (type_told (slice_index a.bytes 12)) e where
  by : (bad : Bool) (ty : Option PiType) → (if bad then None else info_with (spec_at s dev).first (spec_at s dev).size (eight_at a.bytes 0) ty) ≡ Some d → d.size ≡ (spec_at s dev).size
  by true ty e = absurd (none-some d e)
  by false None e = absurd (none-some d e)
  by false (Some ty) e = sym (ap (λ (x : DeviceInfo). x.size) (same_Some _ d e))
