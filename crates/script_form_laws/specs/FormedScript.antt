use Rattle.std.specs.Prelude.{◌≡◌, ◌+◌, ◌<◌, false, true, List, [], length, map, None, All}
use Rattle.std.specs.List.{list_any}
use Rattle.pi_tuple.specs.Finds.{is_zero}
use Rattle.pi_tuple.specs.declared.checks.PiType.TheVariants.{One}
use Rattle.rig_api.specs.Target.{Stored}
use Rattle.volume_table.specs.Tables.{MadeFor, Table}
use Rattle.script_stack.specs.Passed.{AreStored, Keeps, binding_fault, Script, blocks_told, shapes_of, info_of}
use Rattle.script_stack.specs.Followed.{none_fails, opening_of, setting_of}
use Rattle.run_premises.specs.Passed.{AreClean, NoEscape, is_overwrite}
use Rattle.run_premises.specs.Forms.{accounts_by_form, shows_by_form}

-- What is asked of a script so that a reader of it alone knows of what its run is told: all but that the blocks are clean.

-- The script keeps the rules of its language and is bound to its volume over these units, each of whose blocks has the size of a stored block.
pub record IsFormedOver (script : Script) (table : Table) (us : List Stored) : Type 0 where
  pub keeps : Keeps script
  pub lines : length script.lines ≡ length script.faults + length script.ops
  pub made : MadeFor table (map info_of (shapes_of us)) script.block
  pub bound : binding_fault script table (map info_of (shapes_of us)) ≡ None
  pub stored : AreStored us

-- The volume is of type 1, tuples pass all the way, and commands have protect field 001b. The faults have the form. What is stored is bytes, each block of the volume is clean, and no write supplies an escape.
pub record IsFormedScript (script : Script) (table : Table) (us : List Stored) : Type 0 where
  pub ty : table.ty ≡ One
  pub dix : script.mode.dix ≡ true
  pub dif : script.mode.dif ≡ true
  pub protect : script.mode.protect ≡ 1
  pub form : shows_by_form script.mode.kind script.block script.faults script.ops ≡ true
  pub bytes : All (All (λ x. x < 256)) (blocks_told us)
  pub clean : AreClean (setting_of script table (shapes_of us) none_fails) (blocks_told us)
  pub no_escape : NoEscape (setting_of script table (shapes_of us) none_fails) 1 script.ops (opening_of script (shapes_of us) (blocks_told us))

-- The same, where the disk may also fail, lose and misdirect blocks.
pub record IsAccountedScript (script : Script) (table : Table) (us : List Stored) : Type 0 where
  pub ty : table.ty ≡ One
  pub dix : script.mode.dix ≡ true
  pub dif : script.mode.dif ≡ true
  pub protect : script.mode.protect ≡ 1
  pub form : accounts_by_form script.mode.kind script.block script.faults script.ops ≡ true
  pub bytes : All (All (λ x. x < 256)) (blocks_told us)
  pub clean : AreClean (setting_of script table (shapes_of us) none_fails) (blocks_told us)
  pub no_escape : NoEscape (setting_of script table (shapes_of us) none_fails) 1 script.ops (opening_of script (shapes_of us) (blocks_told us))

-- The volume has tuples. There is no line of a fault and no op that overwrites a stored block. What is stored is bytes, and no write supplies an escape.
pub record IsStillScript (script : Script) (table : Table) (us : List Stored) : Type 0 where
  pub tuples : is_zero table.ty ≡ false
  pub faults : script.faults ≡ []
  pub overwrites : list_any is_overwrite script.ops ≡ false
  pub bytes : All (All (λ x. x < 256)) (blocks_told us)
  pub no_escape : NoEscape (setting_of script table (shapes_of us) none_fails) 1 script.ops (opening_of script (shapes_of us) (blocks_told us))
