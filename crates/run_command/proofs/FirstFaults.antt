-- Over a text and an image that are known, what a call is refused for is the first fault of these.
use Rattle.std.proofs.Common.{ℕ, ◌≡◌, inl, inr, ◌<◌, ◌≤◌, true, List, length, Option, Some, None, Result, Ok, Err, refl, sym, ap, subst, ◌∙◌, arith, length-append}
use Rattle.std.specs.Prelude.{nat_lt}
use Rattle.std.proofs.lemmas.Bool.{lt-ltb}
use Rattle.dix_base.specs.Told.{Took}
use Rattle.rig_discovery.specs.Openings.{ImageWasOpened}
use Rattle.rig_api.specs.Head.{head_fault, head_of}
use Rattle.rig_api.specs.declared.rig.RigFault.{RigFault}
use Rattle.rig_api.specs.State.{RigState}
use Rattle.rig_api.proofs.HeadLaws.{headed}
use Rattle.script_lines.specs.declared.kind.ScriptKind.TheVariants.{TooMany}
use Rattle.script_text.specs.Bindings.{binding_fault}
use Rattle.script_text.specs.Language.{script_in}
use Rattle.script_text.specs.declared.fault.ScriptFault.{ScriptFault}
use Rattle.script_text.specs.declared.script.Script.{Script}
use Rattle.volume_table.specs.Faults.{table_fault}
use Rattle.volume_table.specs.Tables.{MadeFor, Table}
use Rattle.volume_table.specs.declared.device.DeviceInfo.{DeviceInfo}
use Rattle.volume_table.specs.declared.entry.Entry.{Entry}
use Rattle.volume_table.specs.declared.fault.VolumeFault.{VolumeFault}
use Rattle.volume_table.specs.declared.fault.VolumeFault.TheVariants.{At}
use Rattle.volume_table.specs.declared.fault.VolumeKind.{VolumeKind}
use Rattle.run_command.proofs.Completing.{longer, table_is}
use Rattle.run_command.proofs.Devices.{image_devices}
use Rattle.dix_base.proofs.Taking.{most_is, whole_text}
use Rattle.dix_base.specs.Reading.{IsOver}
use Rattle.run_command.specs.Verdict.{HasBadVolume, HasRead, HasTable, HoldsFault, IsUnbound, WasAsked, devices_of, table_over}

-- ---- the text

-- one that is too long has this fault
pub over_long : (text : List ℕ) → 4194304 < length text → script_in text ≡ Err (record { line = 0; kind = TooMany })
over_long text l = let t : nat_lt 4194304 (length text) ≡ true = lt-ltb 4194304 (length text) l in rw t refl

is_long : (text : List ℕ) (old new : Option (List ℕ)) → old ≡ Some text → IsOver old new → 4194304 < length text
is_long text old new l over =
    let m = most_is in
    let n = over.2 in
    let t = longer over.0 text new (rw l at over.1) in
    omega (arith, m, n, t)

-- the fault that a source's text has
pub held_fault : (text : List ℕ) (bad : ScriptFault) (old new : Option (List ℕ)) → old ≡ Some text → HoldsFault bad old new → script_in text ≡ Err bad
held_fault text bad old new l (inl h) = ap script_in (sym (whole_text h.0 text old new l h.1)) ∙ h.2
held_fault text bad old new l (inr h) = over_long text (is_long text old new l h.0) ∙ ap (λ (x : ScriptFault). Err x) (sym h.1)

-- the script that a source gave is its text's
pub read_is : (text : List ℕ) (script : Script) (old new : Option (List ℕ)) (o n : ℕ) → old ≡ Some text → HasRead script old new o n → script_in text ≡ Ok script
read_is text script old new o n l read = ap script_in (sym (whole_text read.text text old new l read.whole)) ∙ read.reads

-- ---- the image

-- its header's, where it isn't opened for that
pub head_is : (image : List ℕ) (x : RigFault) (name : List ℕ) (old new : RigState) → old.image ≡ Some image → new.image ≡ old.image → ImageWasOpened name (Some x) old new → head_fault (head_of image) ≡ Some x
head_is image x name old new i k opened = ap head_fault (sym (headed new.standing.head image new.image (k ∙ i) opened.head)) ∙ opened.judged

-- none, where its devices were asked
pub right_asked : (image : List ℕ) (name : List ℕ) (devices : List DeviceInfo) (old new : RigState) → old.image ≡ Some image → WasAsked name devices old new → head_fault (head_of image) ≡ None
right_asked image name devices old new i asked =
    let since = asked.told.since in
    let between = asked.told.between in
    ap head_fault (sym (headed between.standing.head image between.image (since.kept.image ∙ i) since.opened.head)) ∙ since.opened.judged

-- which leaves its bytes
pub kept_asked : (name : List ℕ) (devices : List DeviceInfo) (old new : RigState) → WasAsked name devices old new → new.image ≡ old.image
kept_asked name devices old new asked = asked.told.since.image ∙ asked.told.since.kept.image

-- ---- the volume, and the script's lines

-- a table that was made over its devices has none
pub right_made : (image : List ℕ) (script : Script) (name : List ℕ) (devices : List DeviceInfo) (entries : List Entry) (old new : RigState) → old.image ≡ Some image → WasAsked name devices old new → entries ≡ script.entries → table_fault entries devices script.block ≡ None
    → table_fault script.entries (devices_of image) script.block ≡ None
right_made image script name devices entries old new i asked e right =
    ap (λ v. table_fault script.entries v script.block) (sym (image_devices name devices old new image asked i)) ∙ ap (λ v. table_fault v devices script.block) (sym e) ∙ right

pub volume_is : (image : List ℕ) (script : Script) (entry : ℕ) (kind : VolumeKind) (name : List ℕ) (old new : RigState) → old.image ≡ Some image → (u : HasBadVolume entry kind script name old new) → table_fault script.entries (devices_of image) script.block ≡ Some (At entry kind)
volume_is image script entry kind name old new i u = ap (λ v. table_fault script.entries v script.block) (sym (image_devices name u.devices old new image u.asked i)) ∙ u.bad

-- what is said of the table over the devices that were asked holds over the image's
pub over_asked : (P : Table → List DeviceInfo → Option ScriptFault) (image : List ℕ) (script : Script) (name : List ℕ) (devices : List DeviceInfo) (table : Table) (old new : RigState) → old.image ≡ Some image → WasAsked name devices old new → HasTable script devices table
    → P (table_over script.entries (devices_of image)) (devices_of image) ≡ P table devices
over_asked P image script name devices table old new i asked made =
    let d : devices ≡ devices_of image = image_devices name devices old new image asked i in
    let t : table ≡ table_over script.entries (devices_of image) = table_is script devices (devices_of image) table d made in
    ap (λ v. P (table_over script.entries (devices_of image)) v) (sym d) ∙ ap (λ v. P v devices) (sym t)

pub unbound_is : (image : List ℕ) (script : Script) (bad : ScriptFault) (name : List ℕ) (old new : RigState) → old.image ≡ Some image → (u : IsUnbound bad script name old new) → binding_fault script (table_over script.entries (devices_of image)) (devices_of image) ≡ Some bad
unbound_is image script bad name old new i u = over_asked (binding_fault script) image script name u.devices u.table old new i u.asked u.made ∙ u.bound
