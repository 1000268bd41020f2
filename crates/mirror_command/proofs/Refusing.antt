-- From the refusal of a part to that of the call.
use Rattle.std.proofs.Common.{ℕ, ◌≡◌, ◌⊎◌, ◌≤◌, inl, inr, List, length, Some, None, Result, Ok, Err, refl, sym, subst}
use Rattle.std.specs.Prelude.{MatchResult}
use Rattle.rig_api.specs.State.{RigState}
use Rattle.call_refusal.specs.Causes.{CauseUntold}
use Rattle.call_refusal.specs.Refusals.{of_script}
use Rattle.call_refusal.proofs.WantOfMemory.{of_either}
use Rattle.script_text.specs.declared.fault.ScriptFault.{ScriptFault}
use Rattle.script_text.specs.declared.script.Script.{Script}
use Rattle.run_command.specs.Passed.{table_of}
use Rattle.volume_table.specs.Tables.{MadeFor, Table}
use Rattle.volume_table.specs.declared.device.DeviceInfo.{DeviceInfo}
use Rattle.mirror_script.specs.MirrorFaults.{mirror_fault}
use Rattle.run_command.proofs.Completing.{table_is}
use Rattle.run_command.specs.Verdict.{Facts, HasRead, HasTable, WasAsked}
use Rattle.run_command.specs.Working.{CauseNoTable, IsSound}
use Rattle.call_refusal.specs.declared.refusal.Refusal.{Refusal}
use Rattle.call_refusal.specs.declared.refusal.Refusal.TheVariants as refusal
use Rattle.mirror_volume.specs.Passed.{IsBoundMirror}
use Rattle.mirror_command.specs.Verdict.{CauseRefused, CauseStopped, HasMirrored, HasMirroredSource}
use Rattle.mirror_command.specs.Working.{CauseUnbound, IsFree}
use Rattle.mirror_command.specs.declared.mirrored.Mirrored.{Mirrored}

-- the devices aren't known
pub untold : (r : Refusal) (s : Script) (name : List ℕ) (old new : RigState) → CauseUntold r name old new → CauseStopped r s name old new
untold (refusal.Script bad) s name old new c = absurd c
untold (refusal.Volume entry kind) s name old new c = absurd c
untold refusal.Memory s name old new c = inl (inl c)
untold _ s name old new c = c

unfit_by : (r : Refusal) (bad : ScriptFault) (s : Script) (devices : List DeviceInfo) (table : Table) → HasTable s devices table → mirror_fault s table devices ≡ Some bad → (r ≡ refusal.Memory) ⊎ (r ≡ refusal.Script bad) → CauseUnbound r s devices
unfit_by r bad s devices table made e (inl m) = subst (λ x. CauseUnbound x s devices) (sym m) tt
unfit_by r bad s devices table made e (inr k) = subst (λ x. CauseUnbound x s devices) (sym k) (table, made, e)

-- a script with a fault on a mirror, the first
pub unfit : (bad : ScriptFault) (s : Script) (devices : List DeviceInfo) (table : Table) → HasTable s devices table → mirror_fault s table devices ≡ Some bad → CauseUnbound (of_script bad) s devices
unfit bad s devices table made e = unfit_by (of_script bad) bad s devices table made e (of_either bad.kind bad)

-- there is no table
pub tableless : (r : Refusal) (s : Script) (devices : List DeviceInfo) → CauseNoTable r s devices → CauseUnbound r s devices
tableless (refusal.Script bad) s devices c = absurd c
tableless _ s devices c = c

-- the script may not run on a mirror over the devices
pub unbound : (r : Refusal) (s : Script) (name : List ℕ) (devices : List DeviceInfo) (old new : RigState) → WasAsked name devices old new → CauseUnbound r s devices → CauseStopped r s name old new
unbound (refusal.Script bad) s name devices old new asked c = record { devices = devices; asked = asked; table = c.0; made = c.1; bound = c.2 }
unbound (refusal.Volume entry kind) s name devices old new asked c = record { devices = devices; asked = asked; bad = c }
unbound refusal.Memory s name devices old new asked c = inl (inr (devices, asked))
unbound _ s name devices old new asked c = absurd c

-- the script of a source was run on a mirror, or wasn't
pub source_run : (r : Result Mirrored Refusal) (f : Facts) (s : Script) → HasRead s f.left f.left_after f.reads f.reads_after → MatchResult r (λ x. HasMirrored x s f.name f.rig f.rig_after) (λ x. CauseStopped x s f.name f.rig f.rig_after) →
    MatchResult r (λ x. HasMirroredSource x f) (λ x. CauseRefused x f)
source_run (Ok run) f s read h = record { script = s; read = read; ran = h }
source_run (Err r) f s read h = inr (s, read, h)

-- a script that may run on a mirror is bound to it
pub bound_mirror : (s : Script) (devices : List DeviceInfo) → IsSound s → length devices ≤ 8 → IsFree s devices → IsBoundMirror s devices
bound_mirror s devices sound few free =
    let t : free.table ≡ table_of s devices = table_is s devices devices free.table refl free.made in
    record {
      keeps = sound.keeps;
      lines = sound.lines;
      few = few;
      made = subst (λ (x : Table). MadeFor x devices s.block) t free.made.made;
      bound = subst (λ (x : Table). mirror_fault s x devices ≡ None) t free.free;
    }
