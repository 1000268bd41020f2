-- Where nothing is at fault in text and image, what is refused comes from outside.
use Rattle.std.proofs.Common.{ℕ, ◌≡◌, inl, inr, List, Option, Some, None, Result, Ok, Err, refl, sym, ap, subst, ◌∙◌}
use Rattle.std.specs.Prelude.{IfErr, MatchResult}
use Rattle.rig_api.specs.Head.{head_fault, head_of}
use Rattle.rig_api.specs.State.{RigState}
use Rattle.script_text.specs.declared.fault.ScriptFault.{ScriptFault}
use Rattle.script_text.specs.declared.script.Script.{Script}
use Rattle.volume_table.specs.Faults.{table_fault}
use Rattle.mirror_script.specs.MirrorFaults.{mirror_fault}
use Rattle.run_command.proofs.Completing.{not_bad, same_script, table_is, untaken_for_memory}
use Rattle.run_command.proofs.Devices.{image_devices}
use Rattle.run_command.specs.Verdict.{Facts, IsFromOutside, devices_of, table_over}
use Rattle.call_refusal.specs.declared.refusal.Refusal.{Refusal}
use Rattle.call_refusal.specs.declared.refusal.Refusal.TheVariants as refusal
use Rattle.mirror_command.specs.Verdict.{CauseRefused, CauseStopped, HasMirroredSource, IsComplete, IsMirrorUnbound}
use Rattle.mirror_command.specs.declared.mirrored.Mirrored.{Mirrored}
use Rattle.rig_discovery.proofs.Opened.{right_head, told_is_good}

not_unbound : (image : List ℕ) (s : Script) (bad : ScriptFault) (name : List ℕ) (old new : RigState) → old.image ≡ Some image → mirror_fault s (table_over s.entries (devices_of image)) (devices_of image) ≡ None → IsMirrorUnbound bad s name old new → ⊥
not_unbound image s bad name old new i b u =
    let d : u.devices ≡ devices_of image = image_devices name u.devices old new image u.asked i in
    let t : u.table ≡ table_over s.entries (devices_of image) = table_is s u.devices (devices_of image) u.table d u.made in
    let k : ◌≡◌ {A = Option ScriptFault} None (Some bad) = sym b ∙ ap (λ v. mirror_fault s (table_over s.entries (devices_of image)) v) (sym d) ∙ ap (λ v. mirror_fault s v u.devices) (sym t) ∙ u.bound in
    absurd (cc)

-- over an image whose head is right, and devices over which nothing in the script is at fault
stops_from_outside : (r : Refusal) (s : Script) (name : List ℕ) (old new : RigState) (image : List ℕ) → CauseStopped r s name old new → old.image ≡ Some image → head_fault (head_of image) ≡ None → table_fault s.entries (devices_of image) s.block ≡ None
    → mirror_fault s (table_over s.entries (devices_of image)) (devices_of image) ≡ None → IsFromOutside r
stops_from_outside (refusal.Script bad) s name old new image c i h t b = absurd (not_unbound image s bad name old new i b c)
stops_from_outside (refusal.Image x) s name old new image c i h t b = absurd (right_head image x name old new i c.1.image h c.0)
stops_from_outside (refusal.BadCapacity dev) s name old new image c i h t b = absurd (told_is_good image name dev old new i c)
stops_from_outside (refusal.Volume entry kind) s name old new image c i h t b = absurd (not_bad image s entry kind name old new i t c)
stops_from_outside refusal.RigFault s name old new image c i h t b = inr refl
stops_from_outside refusal.Memory s name old new image c i h t b = inl refl
stops_from_outside refusal.ReadFault s name old new image c i h t b = absurd c

pub complete : (r : Refusal) (f : Facts) → CauseRefused r f → IsComplete r f
complete r f (inl c) = λ text image s l e i h t b cr. inl (untaken_for_memory r f text s l e cr c.0)
complete r f (inr c) = λ text image s l e i h t b cr.
    let same : c.0 ≡ s = same_script f text s c.0 l e c.1 in
    let stopped = subst (λ (v : Script). CauseStopped r v f.name f.rig f.rig_after) same c.2 in
    stops_from_outside r s f.name f.rig f.rig_after image stopped i h t b

pub all_complete : (r : Result Mirrored Refusal) (f : Facts) → MatchResult r (λ x. HasMirroredSource x f) (λ x. CauseRefused x f) → IfErr r (λ x. IsComplete x f)
all_complete (Ok run) f h = tt
all_complete (Err r) f h = complete r f h
