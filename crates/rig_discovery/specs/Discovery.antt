use Rattle.std.specs.Prelude.{ℕ, ◌≡◌, ◌+◌, ◌*◌, ◌^◌, ◌<◌, ◌≤◌, List, [], ◌∷◌, ◌++◌, length, Option, Some, None}
use Rattle.rig_api.specs.declared.units.UnitSpec.{UnitSpec}
use Rattle.rig_api.specs.Log.{LogEntry, Room, entry_of}
use Rattle.rig_api.specs.Telling.{Standing, spec_at}
use Rattle.rig_api.specs.declared.rig.Outcome.{Outcome}
use Rattle.volume_table.specs.declared.device.DeviceInfo.{DeviceInfo}
use Rattle.rig_discovery.specs.Answers.{told_by}

-- READ CAPACITY(16) with room for 32 bytes (SBC-3, 5.16)
abbrev pub look : List ℕ
look = 0x9E ∷ 0x10 ∷ 0 ∷ 0 ∷ 0 ∷ 0 ∷ 0 ∷ 0 ∷ 0 ∷ 0 ∷ 0 ∷ 0 ∷ 0 ∷ 32 ∷ 0 ∷ 0 ∷ []

-- what a device answered to it
pub record LookAnswer : Type 0 where
  pub outcome : Outcome
  pub bytes : List ℕ

-- the record of it, which has all bytes of the answer
abbrev pub entry_of_look : Standing → ℕ → LookAnswer → LogEntry
entry_of_look s dev a = entry_of (spec_at s dev).size dev look [] a.outcome [] a.bytes

-- what it tells of the device
abbrev pub told : Standing → ℕ → LookAnswer → Option DeviceInfo
told s dev a = told_by (spec_at s dev).first (spec_at s dev).size a.outcome a.bytes

-- the records of the devices from this one on, one for each
abbrev pub looks : Standing → ℕ → List LookAnswer → List LogEntry
looks s dev [] = []
looks s dev (a ∷ rest) = entry_of_look s dev a ∷ looks s (dev + 1) rest

abbrev pub with_info : Option DeviceInfo → Option (List DeviceInfo) → Option (List DeviceInfo)
with_info None infos = None
with_info (Some i) None = None
with_info (Some i) (Some infos) = Some (i ∷ infos)

-- what they tell, where none is at fault
abbrev pub all_told : Standing → ℕ → List LookAnswer → Option (List DeviceInfo)
all_told s dev [] = Some []
all_told s dev (a ∷ rest) = with_info (told s dev a) (all_told s (dev + 1) rest)

-- Each device was asked once, in order, and what it is was found by its answer, which its record has.
pub record HasFound (s : Standing) (found : List DeviceInfo) (old new : List LogEntry) : Type 0 where
  pub answers : List LookAnswer
  pub each : length answers ≡ s.devices
  pub log : new ≡ old ++ looks s 0 answers
  pub told : all_told s 0 answers ≡ Some found

-- The devices up to this one were asked once, in order. Its answer is the first that is at fault.
pub record HasFault (s : Standing) (dev : ℕ) (old new : List LogEntry) : Type 0 where
  pub answers : List LookAnswer
  pub found : List DeviceInfo
  pub before : length answers ≡ dev
  pub good : all_told s 0 answers ≡ Some found
  pub answer : LookAnswer
  pub log : new ≡ old ++ (looks s 0 answers ++ (entry_of_look s dev answer ∷ []))
  pub bad : told s dev answer ≡ None

-- a device as the head of an image tells it
abbrev pub info_of : UnitSpec → DeviceInfo
info_of u = record { ty = u.ty; blocks = u.blocks; size = u.size; first = u.first }

-- So many looks took of the spare room at most this.
pub record Spent (n : ℕ) (old new : Room) : Type 0 where
  pub records : old.records ≤ new.records + n
  pub labels : old.labels ≤ new.labels
  pub moved : old.moved ≤ new.moved + 32 * n

-- An address behind the last block of each fits 64 bits.
abbrev pub Ends : List DeviceInfo → Type 0
Ends [] = Unit {0}
Ends (d ∷ ds) = (d.first + d.blocks < 2 ^ 64) × Ends ds
