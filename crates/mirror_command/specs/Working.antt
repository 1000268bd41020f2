-- What the parts of a call give each other.
use Rattle.std.specs.Prelude.{ℕ, ◌≡◌, List, None, Some}
use Rattle.script_text.specs.declared.script.Script.{Script}
use Rattle.volume_table.specs.Tables.{Table}
use Rattle.volume_table.specs.declared.device.DeviceInfo.{DeviceInfo}
use Rattle.mirror_script.specs.MirrorFaults.{mirror_fault}
use Rattle.run_command.specs.Verdict.{HasTable, WasAsked}
use Rattle.run_command.specs.Working.{CauseNoTable}
use Rattle.call_refusal.specs.declared.refusal.Refusal.{Refusal}
use Rattle.call_refusal.specs.declared.refusal.Refusal.TheVariants as refusal
use Rattle.rig_api.specs.State.{RigState}

-- The script may run on a mirror over the volume of these devices.
pub record IsFree (s : Script) (devices : List DeviceInfo) : Type 0 where
  pub table : Table
  pub made : HasTable s devices table
  pub free : mirror_fault s table devices ≡ None

-- Why it may not.
abbrev pub CauseUnbound : Refusal → Script → List DeviceInfo → Type 0
CauseUnbound (refusal.Script bad) s devices = (table : Table) × HasTable s devices table × (mirror_fault s table devices ≡ Some bad)
CauseUnbound why s devices = CauseNoTable why s devices

-- The image was opened, its devices told what they are, and the script is bound to a mirror over them.
pub record IsMirrorBound (s : Script) (devices : List DeviceInfo) (name : List ℕ) (old new : RigState) : Type 0 where
  pub asked : WasAsked name devices old new
  pub free : IsFree s devices
