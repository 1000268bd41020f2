-- Where nothing is at fault in text and image, what is refused comes from outside.
use Rattle.std.proofs.Common.{ℕ, ◌≡◌, inl, inr, ◌<◌, ◌≤◌, true, List, length, Option, Some, None, Result, Ok, Err, refl, sym, ap, subst, ◌∙◌, arith, length-append}
use Rattle.std.specs.Prelude.{IfErr, MatchResult, nat_lt}
use Rattle.std.proofs.lemmas.Bool.{lt-ltb}
use Rattle.dix_base.specs.Told.{Calm, Took}
use Rattle.dix_base.proofs.Counts.{never_rose}
use Rattle.rig_discovery.proofs.Opened.{right_head, told_is_good}
use Rattle.pi_tuple.specs.declared.checks.PiType.{PiType}
use Rattle.rig_api.specs.State.{RigState}
use Rattle.script_text.specs.Bindings.{binding_fault}
use Rattle.script_text.specs.Language.{script_in}
use Rattle.script_text.specs.declared.fault.ScriptFault.{ScriptFault}
use Rattle.script_text.specs.declared.script.Script.{Script}
use Rattle.volume_table.specs.Faults.{table_fault, volume_type}
use Rattle.volume_table.specs.Tables.{Table}
use Rattle.volume_table.specs.declared.device.DeviceInfo.{DeviceInfo}
use Rattle.volume_table.specs.declared.entry.Entry.{Entry}
use Rattle.volume_table.specs.declared.fault.VolumeFault.{VolumeFault}
use Rattle.volume_table.specs.declared.fault.VolumeFault.TheVariants.{At}
use Rattle.volume_table.specs.declared.fault.VolumeKind.{VolumeKind}
use Rattle.run_command.proofs.Devices.{image_devices}
use Rattle.dix_base.proofs.Taking.{most_is, whole_text}
use Rattle.dix_base.specs.Reading.{IsOver}
use Rattle.run_command.specs.Verdict.{CauseRefused, CauseStopped, CauseUntaken, Facts, HasBadVolume, HasRead, HasRunSource, HasTable, HoldsFault, IsComplete, IsUnbound, StopsFromOutside, devices_of, table_over}
use Rattle.run_command.specs.declared.verdict.Finished.{Finished}
use Rattle.call_refusal.specs.declared.refusal.Refusal.{Refusal}
use Rattle.call_refusal.specs.declared.refusal.Refusal.TheVariants as refusal

pub same_script : (f : Facts) (text : List ℕ) (script found : Script) → f.left ≡ Some text → script_in text ≡ Ok script → HasRead found f.left f.left_after f.reads f.reads_after → found ≡ script
same_script f text script found l s read =
    let e : ◌≡◌ {A = Result Script ScriptFault} (Ok found) (Ok script) = sym read.reads ∙ ap script_in (whole_text read.text text f.left f.left_after l read.whole) ∙ s in
    cc

-- a text that is too long has no script
too_long : (text : List ℕ) (script : Script) → 4194304 < length text → script_in text ≡ Ok script → ⊥
too_long text script l s = let t : nat_lt 4194304 (length text) ≡ true = lt-ltb 4194304 (length text) l in let u = rw t at s in absurd (cc)

pub longer : (taken held : List ℕ) (new : Option (List ℕ)) → Took taken (Some held) new → length taken ≤ length held
longer taken held None t = absurd t
longer taken held (Some left) t = let e = ap length t ∙ length-append taken left in omega (arith, e)

not_over : (f : Facts) (text : List ℕ) (script : Script) → f.left ≡ Some text → script_in text ≡ Ok script → IsOver f.left f.left_after → ⊥
not_over f text script l s over =
    let m = most_is in
    let n = over.2 in
    let t = longer over.0 text f.left_after (rw l at over.1) in
    too_long text script (omega (arith, m, n, t)) s

not_faulty : (f : Facts) (text : List ℕ) (script : Script) (bad : ScriptFault) → f.left ≡ Some text → script_in text ≡ Ok script → HoldsFault bad f.left f.left_after → ⊥
not_faulty f text script bad l s (inl h) =
    let e : ◌≡◌ {A = Result Script ScriptFault} (Err bad) (Ok script) = sym h.2 ∙ ap script_in (whole_text h.0 text f.left f.left_after l h.1) ∙ s in
    absurd (cc)
not_faulty f text script bad l s (inr h) = not_over f text script l s h.0

same_parts : (a b : List Entry) (x y : PiType) → a ≡ b → x ≡ y → ◌≡◌ {A = Table} (record { entries = a; ty = x }) (record { entries = b; ty = y })
same_parts a b x y e k = rw (e, k) refl

pub table_is : (script : Script) (devices ds : List DeviceInfo) (table : Table) → devices ≡ ds → HasTable script devices table → table ≡ table_over script.entries ds
table_is script devices ds table d h = same_parts table.entries script.entries table.ty (volume_type script.entries ds) h.entries (h.ty ∙ ap (volume_type script.entries) d)

not_unbound : (image : List ℕ) (script : Script) (bad : ScriptFault) (name : List ℕ) (old new : RigState) → old.image ≡ Some image → binding_fault script (table_over script.entries (devices_of image)) (devices_of image) ≡ None → IsUnbound bad script name old new → ⊥
not_unbound image script bad name old new i b u =
    let d : u.devices ≡ devices_of image = image_devices name u.devices old new image u.asked i in
    let t : u.table ≡ table_over script.entries (devices_of image) = table_is script u.devices (devices_of image) u.table d u.made in
    let k : ◌≡◌ {A = Option ScriptFault} None (Some bad) = sym b ∙ ap (λ v. binding_fault script (table_over script.entries (devices_of image)) v) (sym d) ∙ ap (λ v. binding_fault script v u.devices) (sym t) ∙ u.bound in
    absurd (cc)

pub not_bad : (image : List ℕ) (script : Script) (entry : ℕ) (kind : VolumeKind) (name : List ℕ) (old new : RigState) → old.image ≡ Some image → table_fault script.entries (devices_of image) script.block ≡ None → HasBadVolume entry kind script name old new → ⊥
not_bad image script entry kind name old new i t u =
    let d : u.devices ≡ devices_of image = image_devices name u.devices old new image u.asked i in
    let k : ◌≡◌ {A = Option VolumeFault} None (Some (At entry kind)) = sym t ∙ ap (λ v. table_fault script.entries v script.block) (sym d) ∙ u.bad in
    absurd (cc)

pub stops_from_outside : (r : Refusal) (script : Script) (name : List ℕ) (old new : RigState) → CauseStopped r script name old new → StopsFromOutside r script old
stops_from_outside (refusal.Script bad) script name old new c = λ image i h t b. absurd (not_unbound image script bad name old new i b c)
stops_from_outside (refusal.Image x) script name old new c = λ image i h t b. absurd (right_head image x name old new i c.1.image h c.0)
stops_from_outside (refusal.BadCapacity dev) script name old new c = λ image i h t b. absurd (told_is_good image name dev old new i c)
stops_from_outside (refusal.Volume entry kind) script name old new c = λ image i h t b. absurd (not_bad image script entry kind name old new i t c)
stops_from_outside refusal.RigFault script name old new c = λ image i h t b. inr refl
stops_from_outside refusal.Memory script name old new c = λ image i h t b. inl refl
stops_from_outside refusal.ReadFault script name old new c = absurd c

-- a source without a fault gives its script
pub untaken_for_memory : (r : Refusal) (f : Facts) (text : List ℕ) (script : Script) → f.left ≡ Some text → script_in text ≡ Ok script → Calm f.reads f.reads_after → CauseUntaken r f.left f.left_after f.reads f.reads_after → r ≡ refusal.Memory
untaken_for_memory (refusal.Script bad) f text script l s calm c = absurd (not_faulty f text script bad l s c)
untaken_for_memory refusal.Memory f text script l s calm c = refl
untaken_for_memory refusal.ReadFault f text script l s calm c = absurd (never_rose f.reads f.reads_after calm c.0)
untaken_for_memory _ f text script l s calm c = absurd c

pub complete : (r : Refusal) (f : Facts) → CauseRefused r f → IsComplete r f
complete r f (inl c) = λ text image script l s i h t b cr. inl (untaken_for_memory r f text script l s cr c.0)
complete r f (inr c) = λ text image script l s i h t b cr.
    let e : c.0 ≡ script = same_script f text script c.0 l s c.1 in
    let stopped = subst (λ (v : Script). CauseStopped r v f.name f.rig f.rig_after) e c.2 in
    stops_from_outside r script f.name f.rig f.rig_after stopped image i h t b

pub all_complete : (r : Result Finished Refusal) (f : Facts) → MatchResult r (λ x. HasRunSource x f) (λ x. CauseRefused x f) → IfErr r (λ x. IsComplete x f)
all_complete (Ok run) f h = tt
all_complete (Err r) f h = complete r f h
