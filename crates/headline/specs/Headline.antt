-- What a script does to an image, from bytes to bytes. The schedule, which says in what order commands are sent, merged and answered, is part of the script's text; no sentence here hangs on it, nor on the script's limits.
use Rattle.std.specs.Prelude.{ℕ, ◌≡◌, ◌+◌, ◌<◌, true, false, List, [], get_or, Option, Some, None, Result, Ok, Err}
use Rattle.std.specs.List.{list_any}
use Rattle.pi_tuple.specs.declared.checks.PiType.TheVariants.{One}
use Rattle.rig_api.specs.Headers.{is_layout}
use Rattle.rig_api.specs.Image.{formatted}
use Rattle.rig_api.specs.declared.units.UnitSpec.{UnitSpec}
use Rattle.rig_api.specs.Head.{head_fault, head_of}
use Rattle.rig_api.specs.declared.rig.RigFault.{RigFault}
use Rattle.rig_api.specs.Telling.{own_units}
use Rattle.stack_ops.specs.declared.reply.Reply.{Reply}
use Rattle.volume_table.specs.Faults.{table_fault}
use Rattle.volume_table.specs.declared.fault.VolumeFault.{VolumeFault}
use Rattle.walk_laws.specs.Detectable.{accounted, detectable}
use Rattle.walk_laws.specs.Past.{brought_by, steps_from}
use Rattle.walk_laws.specs.PlainMap.{Plain, as_expected, plain_map, plain_replies}
use Rattle.walk_laws.specs.Settings.{Setting}
use Rattle.walk_laws.specs.Steps.{Step}
use Rattle.walk_laws.specs.UnderMap.{AreClean, NoEscape, NoneEscapes, home, opened, under}
use Rattle.run_laws.specs.ShownRun.{AreCleanWhereRead}
use Rattle.run_premises.specs.Forms.{accounts_by_form, escapes_none, shows_by_form}
use Rattle.stack_ops.specs.Ops.{is_overwrite}
use Rattle.script_text.specs.Bindings.{binding_fault}
use Rattle.script_text.specs.Language.{script_in}
use Rattle.script_text.specs.declared.fault.ScriptFault.{ScriptFault}
use Rattle.script_text.specs.declared.script.Script.{Script}
use Rattle.image_laws.specs.Passed.{has_bad, AllReadRightly, AllReadStored, devices_of}
use Rattle.mirror_script.specs.MirrorFaults.{mirror_fault}
use Rattle.mirror_laws.specs.Mirror.{mirror_replies}
use Rattle.mirror_laws.specs.OneGood.{OneGood, loses_none, script_asks}
use Rattle.mirror_laws.specs.Repair.{WalkedRepair}
use Rattle.mirror_form_laws.specs.Forms.{leaves_a_leg, shows_on_legs}
use Rattle.dix_run.specs.Passed.{repair_over, is_any_lost, mirror_text, AllReadLast, BothHoldLast, half_of, mirror_setting}
use Rattle.report_text.specs.Report.{report}
use Rattle.call_refusal.specs.Refusals.{of_volume}
use Rattle.call_refusal.specs.Texts.{refusal_text}
use Rattle.call_refusal.specs.declared.refusal.Refusal.{Refusal}
use Rattle.call_refusal.specs.declared.refusal.Refusal.TheVariants as refusal
use Rattle.call_verdict.specs.Verdicts.{done_status, stop_status}
use Rattle.call_verdict.specs.declared.status.Status.{Status}
pub use Rattle.image_laws.specs.Over.{FitsImage, IsClean, blocks_in, image_with, left_by, opening_over, replied, setting_over, volume_over}
use Rattle.headline.specs.declared.way.Way.{Way}
use Rattle.headline.specs.declared.way.Way.TheVariants.{Mirror, Run}

-- ---- a script over an image

-- the plain map of virtual blocks that the image holds, with which the ops begin
abbrev pub map_over : Script → List ℕ → Plain
map_over script image = opened (setting_over script image) (opening_over script image)

-- the same on a mirror, which has a leg of half the volume; what the mirror asks of the legs; and what its ops reply, and its repair does, one after another
abbrev pub mirror_over : Script → List ℕ → Setting
mirror_over script image = mirror_setting script (devices_of image) (own_units image)

abbrev pub half_over : Script → List ℕ → ℕ
half_over script image = half_of script (devices_of image)

abbrev pub asked_of_legs : Script → List ℕ → List Step
asked_of_legs script image = script_asks (mirror_over script image) (half_over script image) script.ops (opening_over script image)

abbrev pub replied_on_mirror : Script → List ℕ → List Reply
replied_on_mirror script image = mirror_replies (mirror_over script image) (half_over script image) script.ops (opening_over script image)

abbrev pub mended_over : Script → List ℕ → WalkedRepair
mended_over script image = repair_over script (devices_of image) (own_units image)

-- The text is this script of the language, and neither its volume nor one of its lines is at fault over the image's units where it is run on a mirror over them.
pub record FitsMirror (script : Script) (image text : List ℕ) : Type 0 where
  pub language : script_in text ≡ Ok script
  pub volume : table_fault script.entries (devices_of image) script.block ≡ None
  pub lines : mirror_fault script (volume_over script image) (devices_of image) ≡ None

-- ---- what is at fault

-- the first fault of a script's lines over the image's units, or on a mirror over them
abbrev pub lines_fault : Way → Script → List ℕ → Option ScriptFault
lines_fault Run script image = binding_fault script (volume_over script image) (devices_of image)
lines_fault Mirror script image = mirror_fault script (volume_over script image) (devices_of image)

abbrev pub by_lines : Option ScriptFault → Option Refusal
by_lines None = None
by_lines (Some fault) = Some (refusal.Script fault)

abbrev pub by_volume : Way → Script → List ℕ → Option VolumeFault → Option Refusal
by_volume way script image None = by_lines (lines_fault way script image)
by_volume way script image (Some fault) = Some (of_volume fault)

abbrev pub by_head : Way → Script → List ℕ → Option RigFault → Option Refusal
by_head way script image None = by_volume way script image (table_fault script.entries (devices_of image) script.block)
by_head way script image (Some fault) = Some (refusal.Image fault)

abbrev pub by_text : Way → List ℕ → Result Script ScriptFault → Option Refusal
by_text way image (Ok script) = by_head way script image (head_fault (head_of image))
by_text way image (Err fault) = Some (refusal.Script fault)

-- the first fault, if any: of the text, of the image's header, of the script's volume, or of its lines
abbrev pub first_fault : Way → (image text : List ℕ) → Option Refusal
first_fault way image text = by_text way image (script_in text)

-- ---- the premises

-- The script has no `fault`, `shift` or `overwrite` line. Each block of its volume is clean, and no write supplies an escape.
pub record IsFaultless (script : Script) (image : List ℕ) : Type 0 where
  pub faults : script.faults ≡ []
  pub overwrites : list_any is_overwrite script.ops ≡ false
  pub clean : AreClean (setting_over script image) (blocks_in image)
  pub no_escape : NoEscape (setting_over script image) 1 script.ops (opening_over script image)

-- The script has no such line, no `write` has the application tag FFFFh, and there is no `writepi`.
pub record IsStill (script : Script) : Type 0 where
  pub faults : script.faults ≡ []
  pub overwrites : list_any is_overwrite script.ops ≡ false
  pub escapes : escapes_none script.ops ≡ true

-- The volume is of type 1, tuples pass all the way, and commands have protect field 001b. The faults have the form under which tuples show each, no `write` has the application tag FFFFh, and there is no `writepi`.
pub record IsFormedText (script : Script) (image : List ℕ) : Type 0 where
  pub ty : (volume_over script image).ty ≡ One
  pub dix : script.mode.dix ≡ true
  pub dif : script.mode.dif ≡ true
  pub protect : script.mode.protect ≡ 1
  pub form : shows_by_form script.mode.kind script.block script.faults script.ops ≡ true
  pub escapes : escapes_none script.ops ≡ true

-- The volume is of type 1, tuples pass all the way, and commands have protect field 001b. No write supplies an escape, and each scheduled fault can be shown: both are computed from script and image.
pub record IsShownText (script : Script) (image : List ℕ) : Type 0 where
  pub ty : (volume_over script image).ty ≡ One
  pub dix : script.mode.dix ≡ true
  pub dif : script.mode.dif ≡ true
  pub protect : script.mode.protect ≡ 1
  pub no_escape : NoEscape (setting_over script image) 1 script.ops (opening_over script image)
  pub shown : detectable (setting_over script image) (steps_from (setting_over script image) 1 script.ops) (opening_over script image) ≡ true

-- The same, where the disk may also fail, lose and misdirect blocks: by the form of the faults, and computed.
pub record IsAccountedText (script : Script) (image : List ℕ) : Type 0 where
  pub ty : (volume_over script image).ty ≡ One
  pub dix : script.mode.dix ≡ true
  pub dif : script.mode.dif ≡ true
  pub protect : script.mode.protect ≡ 1
  pub form : accounts_by_form script.mode.kind script.block script.faults script.ops ≡ true
  pub escapes : escapes_none script.ops ≡ true

pub record IsAccountableText (script : Script) (image : List ℕ) : Type 0 where
  pub ty : (volume_over script image).ty ≡ One
  pub dix : script.mode.dix ≡ true
  pub dif : script.mode.dif ≡ true
  pub protect : script.mode.protect ≡ 1
  pub no_escape : NoEscape (setting_over script image) 1 script.ops (opening_over script image)
  pub accounted : accounted (setting_over script image) (steps_from (setting_over script image) 1 script.ops) (opening_over script image) ≡ true

-- The volume is of type 1, and commands have protect field 001b. No write supplies an escape, each alteration can be shown, a block of which the medium stores a part is found, and no block is lost: a leg that lies is believed.
-- Each block has a leg on which no fault line alters it on its way, and no overwrite in its place, and whose medium does what is asked of it; on the other leg the medium may fail blocks.
pub record HasGoodLegs (script : Script) (image : List ℕ) : Type 0 where
  pub ty : (volume_over script image).ty ≡ One
  pub protect : script.mode.protect ≡ 1
  pub no_escape : NoneEscapes (mirror_over script image) (asked_of_legs script image) (opening_over script image)
  pub accounted : accounted (mirror_over script image) (asked_of_legs script image) (opening_over script image) ≡ true
  pub kept : loses_none (mirror_over script image) (asked_of_legs script image) ≡ true
  pub one_good : OneGood (mirror_over script image) (half_over script image) script.ops (opening_over script image)

-- The same by the script's form: the faults have the form under which each is shown, or is of a block that the medium fails, none names a block that another names on the other leg, there is no overwrite, and no `write` has the application tag FFFFh.
pub record HasFormedLegs (script : Script) (image : List ℕ) : Type 0 where
  pub ty : (volume_over script image).ty ≡ One
  pub protect : script.mode.protect ≡ 1
  pub form : shows_on_legs script.mode.kind script.block (half_over script image) script.faults script.ops ≡ true
  pub a_leg : leaves_a_leg (half_over script image) script.faults script.ops ≡ true
  pub escapes : escapes_none script.ops ≡ true

-- The volume is of type 1. The script has no `fault` line and no `overwrite`, and no `write` has the application tag FFFFh; commands have any protect field.
pub record HasStillLegs (script : Script) (image : List ℕ) : Type 0 where
  pub ty : (volume_over script image).ty ≡ One
  pub still : IsStill script

-- Each block of both legs is clean, and both legs have the same data and application tags.
pub record AreEqualLegs (script : Script) (image : List ℕ) : Type 0 where
  pub clean : AreClean (mirror_over script image) (blocks_in image)
  pub equal : (u : ℕ) → u < half_over script image
      → brought_by script.block (get_or (blocks_in image) (home (mirror_over script image) (half_over script image + u)) []) ≡ brought_by script.block (get_or (blocks_in image) (home (mirror_over script image) u) [])

-- Each block is clean to which a read may come, also by a shift.
abbrev pub IsCleanWhereRead : Script → List ℕ → Type 0
IsCleanWhereRead script image = AreCleanWhereRead (setting_over script image) (devices_of image) (blocks_in image)

-- The image is what `format` leaves of these units.
pub record IsFresh (units : List UnitSpec) (image : List ℕ) : Type 0 where
  pub layout : is_layout units ≡ true
  pub image_is : image ≡ formatted units

-- ---- what comes of it

-- Status and text are those of this refusal, and the image is as it was.
pub record IsRefused (why : Refusal) (image : List ℕ) (status : Status) (text image' : List ℕ) : Type 0 where
  pub status_is : status ≡ stop_status why
  pub text_is : text ≡ refusal_text why
  pub image_is : image' ≡ image

-- Status, report and image are those of the script's ops done one after another at the target.
pub record IsWalked (script : Script) (image : List ℕ) (status : Status) (text image' : List ℕ) : Type 0 where
  pub status_is : status ≡ done_status (has_bad (replied script image))
  pub report_is : text ≡ report (replied script image)
  pub image_is : image' ≡ image_with image (left_by script image).blocks

-- The report is that of the script's ops done one after another on a plain map of virtual blocks, whose writes nothing but the host's check refuses.
-- The image has its old header, and behind it the blocks of that map, under their tuples and at their physical addresses.
pub record IsPlain (script : Script) (image text image' : List ℕ) : Type 0 where
  pub report_is : text ≡ report (plain_replies (setting_over script image) script.ops (map_over script image))
  pub image_is : image' ≡ image_with image (under (setting_over script image) 0 (plain_map (setting_over script image) script.ops (map_over script image)).map (blocks_in image))

-- Each block of each read is the last accepted write's, or it is listed: exactly where a layer checks behind a fault, with the first that does and the check that fails there. The report is that of these replies.
pub record IsFound (script : Script) (image text : List ℕ) : Type 0 where
  pub report_is : text ≡ report (replied script image)
  pub reads : AllReadRightly (setting_over script image) script.ops (opening_over script image) (replied script image)

-- Each block of each read is the last write's that was accepted and stored at its place, or it is listed: with the medium exactly where a `fail` line names it, else with the first layer that checks behind a fault. The report is that of these replies.
pub record IsKnown (script : Script) (image text : List ℕ) : Type 0 where
  pub report_is : text ≡ report (replied script image)
  pub reads : AllReadStored (setting_over script image) script.ops (opening_over script image) (replied script image)

-- On a mirror: status, report and image are those of its ops done one after another, and of the repair behind them.
pub record IsMirrored (script : Script) (image : List ℕ) (status : Status) (text image' : List ℕ) : Type 0 where
  pub status_is : status ≡ done_status (is_any_lost (replied_on_mirror script image) (mended_over script image).lost)
  pub report_is : text ≡ mirror_text (replied_on_mirror script image) (mended_over script image).repaired (mended_over script image).lost
  pub image_is : image' ≡ image_with image (mended_over script image).blocks

-- Each read of the mirror is whole and has the data last accepted. Afterwards no block is lost, and both legs hold what was last accepted, under proper tuples.
pub record IsMended (script : Script) (image text image' : List ℕ) : Type 0 where
  pub report_is : text ≡ mirror_text (replied_on_mirror script image) (mended_over script image).repaired 0
  pub reads : AllReadLast script (devices_of image) (own_units image)
  pub equal : BothHoldLast script (devices_of image) (own_units image) (own_units image')

-- ---- the headline

-- What `run` leaves of an image with a right head, by a script that fits it.
pub record RunLeaves (script : Script) (image : List ℕ) (status : Status) (report' image' : List ℕ) : Type 0 where
  -- Whatever the schedule, it is as if the ops were done one after another at the target.
  pub walked : IsWalked script image status report' image'
  -- Without faults and escapes, over clean blocks, it is as if they were done on a plain map of virtual blocks.
  pub plain : IsFaultless script image → IsPlain script image report' image'
  -- In type 1, tuples passed all the way, over clean blocks and with faults whose form shows them:
  -- each block of each read is the last accepted write's, or it is listed with the first layer that checks behind the fault.
  pub found : IsFormedText script image → IsClean script image → IsFound script image report'
  -- So it is where the faults can be shown, whatever their form.
  pub shown : IsShownText script image → IsCleanWhereRead script image → IsFound script image report'
  -- Where the disk fails, loses and misdirects blocks too, each block of each read is the last write's that was stored at its place:
  -- never another block's, never half of two. Or it is listed with the medium that fails it, or with that first layer.
  pub known : IsAccountedText script image → IsClean script image → IsKnown script image report'
  -- So it is where the faults are accounted for, whatever their form.
  pub accounted : IsAccountableText script image → IsCleanWhereRead script image → IsKnown script image report'

-- What `mirror` leaves of it.
pub record MirrorLeaves (script : Script) (image : List ℕ) (status : Status) (report' image' : List ℕ) : Type 0 where
  -- Whatever the schedule, it is as if the ops were done one after another on both legs, and the repair behind them.
  pub walked : IsMirrored script image status report' image'
  -- In type 1 under protect field 001b, over clean and equal legs, one good leg for each block is enough.
  pub mended : HasGoodLegs script image → AreEqualLegs script image → IsMended script image report' image'
  -- So it is by the script's form.
  pub mended_formed : HasFormedLegs script image → AreEqualLegs script image → IsMended script image report' image'
  -- So it is without faults and overwrites, under any protect field.
  pub mended_still : HasStillLegs script image → AreEqualLegs script image → IsMended script image report' image'

-- What `run` leaves of an image that `format` left, where the expected application tag is 0: nothing is asked of its blocks.
pub record FreshRunLeaves (script : Script) (image report' image' : List ℕ) : Type 0 where
  -- without faults and escapes
  pub plain : IsStill script → IsPlain script image report' image'
  -- in type 1, tuples passed all the way, with faults whose form shows them
  pub found : IsFormedText script image → IsFound script image report'
  pub shown : IsShownText script image → IsFound script image report'
  -- where the disk fails, loses and misdirects blocks too
  pub known : IsAccountedText script image → IsKnown script image report'
  pub accounted : IsAccountableText script image → IsKnown script image report'

-- What `mirror` leaves of such an image: one good leg for each block is enough.
pub record FreshMirrorLeaves (script : Script) (image report' image' : List ℕ) : Type 0 where
  pub mended : HasGoodLegs script image → IsMended script image report' image'
  pub mended_formed : HasFormedLegs script image → IsMended script image report' image'
  pub mended_still : HasStillLegs script image → IsMended script image report' image'

-- What a call leaves that was handed this image and this text, of which came this status, this report and this image.
pub record Headline (way : Way) (image text : List ℕ) (status : Status) (report' image' : List ℕ) : Type 0 where
  -- where something is at fault: the first fault is told, and the image is as it was
  pub refused : (why : Refusal) → first_fault way image text ≡ Some why → IsRefused why image status report' image'
  -- of `run`, over an image with a right head
  pub ran : (script : Script) → way ≡ Run → head_fault (head_of image) ≡ None → FitsImage script image text → RunLeaves script image status report' image'
  -- of `mirror`, over such an image
  pub mirrored : (script : Script) → way ≡ Mirror → head_fault (head_of image) ≡ None → FitsMirror script image text → MirrorLeaves script image status report' image'
  -- of `run`, over an image that `format` left
  pub fresh_ran : (script : Script) (units : List UnitSpec) → way ≡ Run → IsFresh units image → FitsImage script image text → as_expected (setting_over script image) 0 ≡ true → FreshRunLeaves script image report' image'
  -- of `mirror`, over such an image
  pub fresh_mirrored : (script : Script) (units : List UnitSpec) → way ≡ Mirror → IsFresh units image → FitsMirror script image text → as_expected (mirror_over script image) 0 ≡ true → FreshMirrorLeaves script image report' image'
