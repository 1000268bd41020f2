use Rattle.std.specs.Prelude.{ℕ, ◌+◌, ◌-◌, ◌/◌, ◌%◌, ◌^◌, Bool, not, eqb, ltb, ◌||◌, if◌then◌else◌, List, slice_index, Option, Some, None, is_some}
use Rattle.pi_tuple.specs.declared.checks.PiType.{PiType}
use Rattle.pi_tuple.specs.declared.checks.PiType.TheVariants.{Zero, One, Two, Three}
use Rattle.cdb_codec.specs.Decoded.{eight_at, four_at}
use Rattle.rig_api.specs.declared.rig.Outcome.{Outcome}
use Rattle.volume_table.specs.declared.device.DeviceInfo.{DeviceInfo}

-- What a host learns of a device by the data of READ CAPACITY(16) (SBC-3, 5.16.2). Bytes 13 to 31 aren't looked at.

-- the type of P_TYPE, of a device with protection
abbrev pub protected : ℕ → Option PiType
protected number = if eqb number 0 then Some One else (if eqb number 1 then Some Two else (if eqb number 2 then Some Three else None))

-- byte 12: PROT_EN in bit 0, P_TYPE in bits 3 to 1, which is 0 without protection and else at most 2
abbrev pub type_told : ℕ → Option PiType
type_told byte = if eqb (byte % 2) 0 then (if eqb (byte / 2 % 8) 0 then Some Zero else None) else protected (byte / 2 % 8)

-- the answer is at fault: a sense, another block size than the device's, a last address of all ones or one before the first
abbrev pub is_fault : (first size : ℕ) → Outcome → (last told : ℕ) → Bool
is_fault first size o last told = is_some o.sense || (not (eqb told size) || (eqb last (2 ^ 64 - 1) || ltb last first))

abbrev pub info_with : (first size last : ℕ) → Option PiType → Option DeviceInfo
info_with first size last None = None
info_with first size last (Some ty) = Some (record { ty = ty; blocks = last - first + 1; size = size; first = first })

-- the device of this first address and block size that answered so, or nothing where the answer is at fault
abbrev pub told_by : (first size : ℕ) → Outcome → List ℕ → Option DeviceInfo
told_by first size o bytes =
    if is_fault first size o (eight_at bytes 0) (four_at bytes 8) then None else info_with first size (eight_at bytes 0) (type_told (slice_index bytes 12))
