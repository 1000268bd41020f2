-- From the refusal of a part to that of the call.
use Rattle.std.proofs.Common.{ℕ, ◌≡◌, ◌⊎◌, inl, inr, ◌+◌, List, Option, Some, Result, Ok, Err, sym, ap, subst, arith}
use Rattle.std.specs.Prelude.{MatchResult}
use Rattle.record_laws.proofs.Going.{answers_room}
use Rattle.call_refusal.specs.Causes.{CauseUntold}
use Rattle.script_lines.specs.declared.kind.ScriptKind.{ScriptKind}
use Rattle.script_lines.specs.declared.kind.ScriptKind.TheVariants.{Memory as MemoryKind}
use Rattle.call_refusal.specs.Refusals.{of_kind, of_script}
use Rattle.call_refusal.proofs.WantOfMemory.{of_either}
use Rattle.script_text.specs.Bindings.{binding_fault}
use Rattle.volume_table.specs.Tables.{Table}
use Rattle.script_text.specs.Language.{script_in}
use Rattle.script_text.specs.declared.fault.ScriptFault.{ScriptFault}
use Rattle.script_text.specs.declared.script.Script.{Script}
use Rattle.volume_table.specs.declared.device.DeviceInfo.{DeviceInfo}
use Rattle.dix_base.specs.Reading.{IsWhole, TookAtMost, most_bytes}
use Rattle.run_command.specs.Verdict.{CauseRefused, CauseStopped, CauseUntaken, Facts, HasRead, HasRun, HasRunSource, HasTable, WasAsked}
use Rattle.run_command.specs.Working.{CauseNoTable, CauseUnbound, CauseUnread}
use Rattle.run_command.specs.declared.verdict.Finished.{Finished}
use Rattle.call_refusal.specs.declared.refusal.Refusal.{Refusal}
use Rattle.call_refusal.specs.declared.refusal.Refusal.TheVariants as refusal
use Rattle.rig_api.specs.Log.{Room}
use Rattle.rig_api.specs.State.{RigState}

unread_by : (bad : ScriptFault) (r : Refusal) (want : Result Script ScriptFault) → want ≡ Err bad → (r ≡ refusal.Memory) ⊎ (r ≡ refusal.Script bad) → CauseUnread r want
unread_by bad r want e (inl m) = inl m
unread_by bad r want e (inr s) = inr (bad, s, e)

pub unread : (bad : ScriptFault) (want : Result Script ScriptFault) → (bad.kind ≡ MemoryKind) ⊎ (want ≡ Err bad) → CauseUnread (of_script bad) want
unread bad want (inl k) = inl (ap (λ (v : ScriptKind). of_kind v bad) k)
unread bad want (inr e) = unread_by bad (of_script bad) want e (of_either bad.kind bad)

pub within : (text : List ℕ) (a b : Option (List ℕ)) → IsWhole text a b → TookAtMost (most_bytes + 1) a b
within text a b w = let l = w.2 in (text, w.0, omega (arith, l))

pub untaken_text : (r : Refusal) (text : List ℕ) (a b : Option (List ℕ)) (o n : ℕ) → IsWhole text a b → CauseUnread r (script_in text) → CauseUntaken r a b o n
untaken_text r text a b o n w (inl m) = subst (λ x. CauseUntaken x a b o n) (sym m) (within text a b w)
untaken_text r text a b o n w (inr s) = subst (λ x. CauseUntaken x a b o n) (sym s.1) (inl (text, w, s.2))

-- the devices aren't known
pub untold : (r : Refusal) (script : Script) (name : List ℕ) (old new : RigState) → CauseUntold r name old new → CauseStopped r script name old new
untold (refusal.Script bad) script name old new c = absurd c
untold (refusal.Volume entry kind) script name old new c = absurd c
untold refusal.Memory script name old new c = inl c
untold _ script name old new c = c

unfit_by : (r : Refusal) (bad : ScriptFault) (script : Script) (devices : List DeviceInfo) (table : Table) → HasTable script devices table → binding_fault script table devices ≡ Some bad → (r ≡ refusal.Memory) ⊎ (r ≡ refusal.Script bad) → CauseUnbound r script devices
unfit_by r bad script devices table made e (inl m) = subst (λ x. CauseUnbound x script devices) (sym m) tt
unfit_by r bad script devices table made e (inr s) = subst (λ x. CauseUnbound x script devices) (sym s) (table, made, e)

-- a script with a fault over its volume, the first
pub unfit : (bad : ScriptFault) (script : Script) (devices : List DeviceInfo) (table : Table) → HasTable script devices table → binding_fault script table devices ≡ Some bad → CauseUnbound (of_script bad) script devices
unfit bad script devices table made e = unfit_by (of_script bad) bad script devices table made e (of_either bad.kind bad)

-- there is no table
pub tableless : (r : Refusal) (script : Script) (devices : List DeviceInfo) → CauseNoTable r script devices → CauseUnbound r script devices
tableless (refusal.Script bad) script devices c = absurd c
tableless _ script devices c = c

-- there is no table over which the script may run
pub unbound : (r : Refusal) (script : Script) (name : List ℕ) (devices : List DeviceInfo) (old new : RigState) → WasAsked name devices old new → CauseUnbound r script devices → CauseStopped r script name old new
unbound (refusal.Script bad) script name devices old new asked c = record { devices = devices; asked = asked; table = c.0; made = c.1; bound = c.2 }
unbound (refusal.Volume entry kind) script name devices old new asked c = record { devices = devices; asked = asked; bad = c }
unbound refusal.Memory script name devices old new asked c = inr (devices, asked)
unbound _ script name devices old new asked c = absurd c

-- the script of a source was run, or comes to no run
pub source_run : (r : Result Finished Refusal) (f : Facts) (script : Script) → HasRead script f.left f.left_after f.reads f.reads_after → MatchResult r (λ x. HasRun x script f.name f.rig f.rig_after) (λ x. CauseStopped x script f.name f.rig f.rig_after) →
    MatchResult r (λ x. HasRunSource x f) (λ x. CauseRefused x f)
source_run (Ok run) f script read h = record { script = script; read = read; ran = h }
source_run (Err r) f script read h = inr (script, read, h)

-- the images' devices told what they are before the call gave up
pub asked_still : (name : List ℕ) (devices : List DeviceInfo) (old a b : RigState) (spare : Room) → a ≡ record b { room = spare } → WasAsked name devices old b → WasAsked name devices old a
asked_still name devices old a b spare same asked =
    let since = asked.told.since in
    subst (λ (s : RigState). WasAsked name devices old s) (sym same)
    (record {
      told = record {
        between = asked.told.between;
        since = record { opened = since.opened; kept = since.kept; laid = since.laid; image = since.image; units = since.units; standing = since.standing; count = since.count };
        armed = asked.told.armed;
        found = asked.told.found;
        devices_are = asked.told.devices_are;
        answered = λ us e. answers_room us asked.told.between b spare (asked.told.answered us e);
      };
      all = asked.all;
    })
