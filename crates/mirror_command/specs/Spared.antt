-- How a block fares of which nothing alters a leg and no request names one for the medium, whatever store calls failed elsewhere.
use Rattle.std.specs.Prelude.{ℕ, zero, suc, ◌≡◌, Bool, false, not, List}
use Rattle.rig_api.specs.Target.{Stored}
use Rattle.volume_table.specs.declared.device.DeviceInfo.{DeviceInfo}
use Rattle.walk_laws.specs.Past.{Brought, brought_by}
use Rattle.script_text.specs.declared.script.Script.{Script}
use Rattle.mirror_volume.specs.Passed.{LegRun, op_at}
use Rattle.mirror_volume.specs.Spared.{HoldsOn, IsShownOverwrite, IsUnaltered, ReadsRight, fails_on_leg, place_on, stored_on, written_then}
use Rattle.mirror_command.specs.Stages.{Stage, Stood}

-- what block u was last written with after the first k ops, and at first with this: by the replies, and by the pages when each op began
abbrev pub last_written : (s : Script) (devices : List DeviceInfo) (begun : Stage) (k : ℕ) (now : Stage) → Stood s devices begun k now → (u : ℕ) → Brought → Brought
last_written s devices begun zero now h u e = e
last_written s devices begun (suc k) now h u e = written_then s.block u (op_at s.ops k) h.0.sides.pool h.1.1.reply (last_written s devices begun k h.0 h.1.0 u e)

-- Each overwrite of it on a leg, among the first k ops, is shown.
abbrev pub AllOverwritesShown : (s : Script) (devices : List DeviceInfo) (begun : Stage) (k : ℕ) (now : Stage) → Stood s devices begun k now → (us : List Stored) → (leg : Bool) → (u : ℕ) → Brought → Type 0
AllOverwritesShown s devices begun zero now h us leg u e = Unit {0}
AllOverwritesShown s devices begun (suc k) now h us leg u e =
    AllOverwritesShown s devices begun k h.0 h.1.0 us leg u e × IsShownOverwrite s devices us leg u k (op_at s.ops k) h.0.sides now.outside (last_written s devices begun k h.0 h.1.0 u e)

-- Each read of it among them isn't listed, and landed what it was last written with.
abbrev pub AllReadRight : (s : Script) (devices : List DeviceInfo) (begun : Stage) (k : ℕ) (now : Stage) → Stood s devices begun k now → (u : ℕ) → Brought → Type 0
AllReadRight s devices begun zero now h u e = Unit {0}
AllReadRight s devices begun (suc k) now h u e =
    AllReadRight s devices begun k h.0 h.1.0 u e × ReadsRight s.block u (op_at s.ops k) h.0.sides now.sides h.1.1.reply (last_written s devices begun k h.0 h.1.0 u e)

-- Each read of block u is right, and the repair leaves it right on this leg.
pub record KeepsBlock (s : Script) (devices : List DeviceInfo) (begun : Stage) (k : ℕ) (stage : Stage) (stood : Stood s devices begun k stage) (us left : List Stored) (u : ℕ) (leg : Bool) : Type 0 where
  pub reads : AllReadRight s devices begun k stage stood u (brought_by s.block (stored_on s devices us us leg u))
  pub holds : HoldsOn s devices us left leg u (last_written s devices begun k stage stood u (brought_by s.block (stored_on s devices us us leg u)))

-- So fares each block with a leg on which nothing alters it and no request names it for the medium, neither one of the ops nor one of the repair, where what lines do to it on the other leg is shown, and what overwrites leave there.
abbrev pub KeepsSpared : (s : Script) (devices : List DeviceInfo) (begun : Stage) (k : ℕ) (stage : Stage) → Stood s devices begun k stage → (us left : List Stored) → (runs : List LegRun) → Type 0
KeepsSpared s devices begun k stage stood us left runs =
    (u : ℕ) (leg : Bool) → IsUnaltered s devices us u leg → AllOverwritesShown s devices begun k stage stood us (not leg) u (brought_by s.block (stored_on s devices us us leg u))
    → fails_on_leg (place_on s devices leg u) runs ≡ false → KeepsBlock s devices begun k stage stood us left u leg
