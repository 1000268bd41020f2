-- What is asked of a script on a mirror, and of the blocks that a rig tells, before one good leg per block is enough. All else that is asked there was seen to when the script was read and bound.
use Rattle.std.specs.Prelude.{ℕ, ◌≡◌, ◌+◌, ◌<◌, true, List, [], All, get_or, false}
use Rattle.std.specs.List.{list_any}
use Rattle.pi_tuple.specs.declared.checks.PiType.TheVariants.{One}
use Rattle.dix_adapter.specs.Ways.{blocks_told}
use Rattle.rig_api.specs.Target.{Stored}
use Rattle.volume_table.specs.declared.device.DeviceInfo.{DeviceInfo}
use Rattle.walk_laws.specs.Detectable.{accounted}
use Rattle.walk_laws.specs.Past.{brought_by}
use Rattle.walk_laws.specs.UnderMap.{AreClean, NoneEscapes, home}
use Rattle.stack_ops.specs.Ops.{is_overwrite}
use Rattle.mirror_form_laws.specs.Passed.{escapes_none}
use Rattle.script_text.specs.declared.script.Script.{Script}
use Rattle.script_stack.specs.Causes.{table_of}
use Rattle.mirror_laws.specs.OneGood.{OneGood, loses_none, script_asks}
use Rattle.mirror_form_laws.specs.Forms.{leaves_a_leg, shows_on_legs}
use Rattle.mirror_volume.specs.Standing.{half_of, mirror_setting}
use Rattle.mirror_volume.specs.Enough.{opening_over}

-- What is stored is bytes. The laws on forms of faults are of any blocks, and need it said; of what a rig tells its contract says it, so no clause of a call asks for it.
abbrev pub HoldsBytes : List Stored → Type 0
HoldsBytes us = All (All (λ x. x < 256)) (blocks_told us)

-- Both legs have the same data and application tags.
abbrev pub AreEqualLegs : Script → List DeviceInfo → List Stored → Type 0
AreEqualLegs s devices us = (u : ℕ) → u < half_of s devices
    → brought_by s.block (get_or (blocks_told us) (home (mirror_setting s devices us) (half_of s devices + u)) []) ≡ brought_by s.block (get_or (blocks_told us) (home (mirror_setting s devices us) u) [])

-- The volume is of type 1, and commands have protect field 001b. Each block of both legs is clean, and both legs have the same data and application tags.
-- No write supplies an escape, each alteration can be shown, a block of which the medium stores a part is found, and no block is lost: a leg that lies is believed.
-- Each block has a leg on which no fault line alters it on its way, and no overwrite in its place, and whose medium does what is asked of it. On the other leg the medium may fail it.
pub record IsOneGoodRun (s : Script) (devices : List DeviceInfo) (us : List Stored) : Type 0 where
  pub ty : (table_of s devices).ty ≡ One
  pub protect : s.mode.protect ≡ 1
  pub clean : AreClean (mirror_setting s devices us) (blocks_told us)
  pub equal : AreEqualLegs s devices us
  pub no_escape : NoneEscapes (mirror_setting s devices us) (script_asks (mirror_setting s devices us) (half_of s devices) s.ops (opening_over s us)) (opening_over s us)
  pub accounted : accounted (mirror_setting s devices us) (script_asks (mirror_setting s devices us) (half_of s devices) s.ops (opening_over s us)) (opening_over s us) ≡ true
  pub kept : loses_none (mirror_setting s devices us) (script_asks (mirror_setting s devices us) (half_of s devices) s.ops (opening_over s us)) ≡ true
  pub one_good : OneGood (mirror_setting s devices us) (half_of s devices) s.ops (opening_over s us)

-- The same by what a reader of the script sees, but that the blocks are clean and the legs equal: the faults have the form under which each is shown, or is of a block that the medium fails,
-- none names a block that another names on the other leg, there is no overwrite, and no `write` has the application tag FFFFh.
pub record IsFormedMirror (s : Script) (devices : List DeviceInfo) (us : List Stored) : Type 0 where
  pub ty : (table_of s devices).ty ≡ One
  pub protect : s.mode.protect ≡ 1
  pub form : shows_on_legs s.mode.kind s.block (half_of s devices) s.faults s.ops ≡ true
  pub a_leg : leaves_a_leg (half_of s devices) s.faults s.ops ≡ true
  pub escapes : escapes_none s.ops ≡ true
  pub clean : AreClean (mirror_setting s devices us) (blocks_told us)
  pub equal : AreEqualLegs s devices us

-- No line of a fault, no overwrite, and no `write` with the application tag FFFFh; under any protect field. The volume is of type 1, each block of both legs is clean, and both legs have the same data and application tags.
pub record IsStillMirror (s : Script) (devices : List DeviceInfo) (us : List Stored) : Type 0 where
  pub ty : (table_of s devices).ty ≡ One
  pub faults : s.faults ≡ []
  pub overwrites : list_any is_overwrite s.ops ≡ false
  pub escapes : escapes_none s.ops ≡ true
  pub clean : AreClean (mirror_setting s devices us) (blocks_told us)
  pub equal : AreEqualLegs s devices us
