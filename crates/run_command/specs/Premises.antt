-- What is asked of a script, and of the blocks that a rig tells, before its run is one on a plain map, or names the first layer that checks after a fault.
-- All else that is asked there was seen to when the script was read and bound to its volume.
use Rattle.std.specs.Prelude.{◌≡◌, true, false, List, []}
use Rattle.std.specs.List.{list_any}
use Rattle.pi_tuple.specs.declared.checks.PiType.TheVariants.{One}
use Rattle.block_path.specs.Acts.{State}
use Rattle.stack_walk_laws.specs.Passed.{blocks_told, shapes_of}
use Rattle.rig_api.specs.Target.{Stored}
use Rattle.volume_table.specs.Tables.{Table}
use Rattle.volume_table.specs.declared.device.DeviceInfo.{DeviceInfo}
use Rattle.walk_laws.specs.Detectable.{accounted, detectable}
use Rattle.walk_laws.specs.Past.{steps_from}
use Rattle.walk_laws.specs.Settings.{Setting}
use Rattle.walk_laws.specs.UnderMap.{AreClean, NoEscape}
use Rattle.run_laws.specs.ShownRun.{AreCleanWhereRead}
use Rattle.script_form_laws.specs.Passed.{accounts_by_form, escapes_none, shows_by_form}
use Rattle.stack_ops.specs.Ops.{is_overwrite}
use Rattle.script_stack.specs.Followed.{none_fails, opening_of, setting_of}
use Rattle.script_text.specs.declared.script.Script.{Script}

-- what a script runs with over units that are told, behind each of which is a target, and with what it begins
abbrev pub setting_told : Script → Table → List Stored → Setting
setting_told script table us = setting_of script table (shapes_of us) none_fails

abbrev pub opening_told : Script → List Stored → State
opening_told script us = opening_of script (shapes_of us) (blocks_told us)

-- The script has no `fault`, `shift` or `overwrite` line. Each block of the volume is clean.
pub record IsQuietRun (script : Script) (table : Table) (us : List Stored) : Type 0 where
  pub faults : script.faults ≡ []
  pub overwrites : list_any is_overwrite script.ops ≡ false
  pub clean : AreClean (setting_told script table us) (blocks_told us)

-- Nor does a write supply an escape.
pub record IsPlainRun (script : Script) (table : Table) (us : List Stored) : Type 0 where
  pub quiet : IsQuietRun script table us
  pub no_escape : NoEscape (setting_told script table us) 1 script.ops (opening_told script us)

-- The volume is of type 1, tuples pass all the way, and commands have protect field 001b. Each block is clean to which a read may come, also by a shift; no write supplies an escape, and each scheduled fault can be shown.
pub record IsDetectableRun (script : Script) (table : Table) (devices : List DeviceInfo) (us : List Stored) : Type 0 where
  pub ty : table.ty ≡ One
  pub dix : script.mode.dix ≡ true
  pub dif : script.mode.dif ≡ true
  pub protect : script.mode.protect ≡ 1
  pub clean : AreCleanWhereRead (setting_told script table us) devices (blocks_told us)
  pub no_escape : NoEscape (setting_told script table us) 1 script.ops (opening_told script us)
  pub shown : detectable (setting_told script table us) (steps_from (setting_told script table us) 1 script.ops) (opening_told script us) ≡ true

-- The same by what a reader of the script sees, but that the blocks of the volume are clean: the faults have the form under which each is shown, no `write` has the application tag FFFFh, and there is no `writepi`.
pub record IsFormedRun (script : Script) (table : Table) (devices : List DeviceInfo) (us : List Stored) : Type 0 where
  pub ty : table.ty ≡ One
  pub dix : script.mode.dix ≡ true
  pub dif : script.mode.dif ≡ true
  pub protect : script.mode.protect ≡ 1
  pub form : shows_by_form script.mode.kind script.block script.faults script.ops ≡ true
  pub escapes : escapes_none script.ops ≡ true
  pub clean : AreClean (setting_told script table us) (blocks_told us)

-- Under the premises of a detectable run the disk may also fail, lose and misdirect blocks: each scheduled fault can be shown, or is of such a block.
pub record IsAccountableRun (script : Script) (table : Table) (devices : List DeviceInfo) (us : List Stored) : Type 0 where
  pub ty : table.ty ≡ One
  pub dix : script.mode.dix ≡ true
  pub dif : script.mode.dif ≡ true
  pub protect : script.mode.protect ≡ 1
  pub clean : AreCleanWhereRead (setting_told script table us) devices (blocks_told us)
  pub no_escape : NoEscape (setting_told script table us) 1 script.ops (opening_told script us)
  pub accounted : accounted (setting_told script table us) (steps_from (setting_told script table us) 1 script.ops) (opening_told script us) ≡ true

-- The same by what a reader of the script sees: no flip alters a misdirected block on its way to the medium, and none is torn.
pub record IsAccountedByForm (script : Script) (table : Table) (devices : List DeviceInfo) (us : List Stored) : Type 0 where
  pub ty : table.ty ≡ One
  pub dix : script.mode.dix ≡ true
  pub dif : script.mode.dif ≡ true
  pub protect : script.mode.protect ≡ 1
  pub form : accounts_by_form script.mode.kind script.block script.faults script.ops ≡ true
  pub escapes : escapes_none script.ops ≡ true
  pub clean : AreClean (setting_told script table us) (blocks_told us)
