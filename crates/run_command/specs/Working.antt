-- What the parts of a call give each other.
use Rattle.std.specs.Prelude.{ℕ, ◌≡◌, ◌+◌, ◌⊎◌, List, length, None, Err, Result}
use Rattle.script_laws.specs.Keeping.{Keeps}
use Rattle.script_text.specs.Bindings.{binding_fault}
use Rattle.script_text.specs.declared.fault.ScriptFault.{ScriptFault}
use Rattle.script_text.specs.declared.script.Script.{Script}
use Rattle.volume_table.specs.Faults.{table_fault}
use Rattle.volume_table.specs.Tables.{Table}
use Rattle.volume_table.specs.declared.device.DeviceInfo.{DeviceInfo}
use Rattle.volume_table.specs.declared.fault.VolumeFault.TheVariants.{At}
use Rattle.std.specs.Prelude.{Some}
use Rattle.run_command.specs.Verdict.{HasTable, WasAsked}
use Rattle.call_refusal.specs.declared.refusal.Refusal.{Refusal}
use Rattle.call_refusal.specs.declared.refusal.Refusal.TheVariants as refusal
use Rattle.run_command.specs.declared.verdict.Bound.{Bound}
use Rattle.rig_api.specs.State.{RigState}

-- Why a text is no script.
abbrev pub CauseUnread : Refusal → Result Script ScriptFault → Type 0
CauseUnread r want = (r ≡ refusal.Memory) ⊎ ((bad : ScriptFault) × (r ≡ refusal.Script bad) × (want ≡ Err bad))

-- The script keeps the rules of its language, and has a line for each fault and each op.
pub record IsSound (script : Script) : Type 0 where
  pub keeps : Keeps script
  pub lines : length script.lines ≡ length script.faults + length script.ops

-- Why there is no table of a script's volume.
abbrev pub CauseNoTable : Refusal → Script → List DeviceInfo → Type 0
CauseNoTable (refusal.Volume entry kind) script devices = table_fault script.entries devices script.block ≡ Some (At entry kind)
CauseNoTable refusal.Memory script devices = Unit {0}
CauseNoTable _ script devices = ⊥

-- Why there is no table over which a script may run.
abbrev pub CauseUnbound : Refusal → Script → List DeviceInfo → Type 0
CauseUnbound (refusal.Script bad) script devices = (table : Table) × HasTable script devices table × (binding_fault script table devices ≡ Some bad)
CauseUnbound why script devices = CauseNoTable why script devices

-- The image was opened, its devices told what they are, and the script is bound to its volume.
pub record IsBound (b : Bound) (script : Script) (name : List ℕ) (old new : RigState) : Type 0 where
  pub asked : WasAsked name b.devices.items old new
  pub made : HasTable script b.devices.items b.table
  pub bound : binding_fault script b.table b.devices.items ≡ None
