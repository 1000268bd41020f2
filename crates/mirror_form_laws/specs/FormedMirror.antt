use Rattle.std.specs.Prelude.{ℕ, ◌≡◌, ◌+◌, ◌%◌, ◌<◌, true, false, List, [], ◌∷◌, ◌++◌, length, All, get_or}
use Rattle.std.specs.List.{list_any}
use Rattle.pi_tuple.specs.declared.checks.PiType.TheVariants.{One}
use Rattle.page_pool.specs.declared.segs.Seg.{Seg}
use Rattle.fault_schedule.specs.declared.fault.FaultLine.{FaultLine}
use Rattle.stack_ops.specs.declared.op.Op.{Op}
use Rattle.stack_ops.specs.declared.op.Op.TheVariants.{Fetch, FetchPi, Fill, Overwrite, Put, Seal, Show, Wait, Write, WritePi}
use Rattle.volume_table.specs.Places.{volume_len}
use Rattle.volume_table.specs.declared.device.DeviceInfo.{DeviceInfo}
use Rattle.block_path.specs.Acts.{State}
use Rattle.block_path.specs.Routes.{target}
use Rattle.walk_laws.specs.CalmRun.{LiesInImage}
use Rattle.walk_laws.specs.Past.{brought_by}
use Rattle.walk_laws.specs.Settings.{Setting}
use Rattle.walk_laws.specs.UnderMap.{AreClean, NoneEscapes, home}
use Rattle.run_laws.specs.ShownRun.{HasCells, IsChecked, LiesOn}
use Rattle.stack_ops.specs.Ops.{is_overwrite}
use Rattle.run_premises.specs.Forms.{escapes_none}
use Rattle.run_premises.specs.FormedRun.{IsOfBytes}
use Rattle.mirror_laws.specs.OneGood.{AllBind, AreBytes, IsRepaired, ReadsLast, script_asks}
use Rattle.mirror_form_laws.specs.Forms.{shows_on_legs}

-- What is asked of a script on a mirror so that its faults are known by their form.

-- What an op puts in the pages is bytes.
abbrev pub PutsBytes : Op → Type 0
PutsBytes (Fill seg byte) = byte < 256
PutsBytes (Put page off bytes) = All (λ x. x < 256) bytes
PutsBytes (Show seg) = Unit {0}
PutsBytes (Seal n body tuples app rtag) = Unit {0}
PutsBytes (Write v n body app) = Unit {0}
PutsBytes (Fetch v n body) = Unit {0}
PutsBytes (WritePi v n body tuples) = Unit {0}
PutsBytes (FetchPi v n body tuples) = Unit {0}
PutsBytes (Overwrite dev lba change) = Unit {0}
PutsBytes Wait = Unit {0}

abbrev pub AllPutBytes : List Op → Type 0
AllPutBytes [] = Unit {0}
AllPutBytes (op ∷ ops) = PutsBytes op × AllPutBytes ops

-- The volume is of type 1, tuples pass all the way, commands have protect field 001b, and blocks have an even number of bytes.
-- What stands in the pages and on the volume is bytes, each block of both legs is clean, requests lie on the mirror, and no write supplies an escape. The faults have the form: flips that are shown, and blocks that the medium fails.
pub record HasFormedLegs (m : Setting) (devices : List DeviceInfo) (half : ℕ) (ops : List Op) (opening : State) : Type 0 where
  pub checked : IsChecked m
  pub even : m.size % 2 ≡ 0
  pub flips : All (λ (line : FaultLine). IsOfBytes line.kind) m.site.faults
  pub pages : All (λ x. x < 256) opening.bytes
  pub long : volume_len m.entries ≡ half + half
  pub lies : LiesInImage m (volume_len m.entries) opening.blocks
  pub clean : AreClean m opening.blocks
  pub bind : AllBind m devices half (length opening.bytes) ops
  pub puts : AllPutBytes ops
  pub no_escape : NoneEscapes m (script_asks m half ops opening) opening
  pub form : shows_on_legs m.mode.kind m.size half m.site.faults ops ≡ true

-- There are no faults and no op that overwrites a stored block, and no `write` has the application tag FFFFh.
-- The volume is of type 1, and tuples pass all the way, under any protect field but 000b, with a target behind the adapter.
-- Both legs are clean, with the same data and application tags, and those of leg 0 are made of bytes.
pub record HasStillLegs (m : Setting) (devices : List DeviceInfo) (half : ℕ) (ops : List Op) (opening : State) : Type 0 where
  pub ty : m.ty ≡ One
  pub dix : m.mode.dix ≡ true
  pub dif : m.mode.dif ≡ true
  pub protect : 0 < m.mode.protect
  pub faults : m.site.faults ≡ []
  pub device : m.site.device ≡ target []
  pub long : volume_len m.entries ≡ half + half
  pub lies : LiesOn m devices
  pub cells : HasCells m devices opening.blocks
  pub clean : AreClean m opening.blocks
  pub equal : (u : ℕ) → u < half → brought_by m.size (get_or opening.blocks (home m (half + u)) []) ≡ brought_by m.size (get_or opening.blocks (home m u) [])
  pub bytes : AreBytes m half opening.blocks
  pub bind : AllBind m devices half (length opening.bytes) ops
  pub overwrites : list_any is_overwrite ops ≡ false
  pub escapes : escapes_none ops ≡ true

-- Each read is whole with the data that were last accepted, and after the repair no block is lost and both legs hold them.
pub record ServesLast (m : Setting) (half : ℕ) (ops : List Op) (opening : State) : Type 0 where
  pub reads : (before after : List Op) (v n : ℕ) (body : List Seg) → ops ≡ before ++ (Fetch v n body ∷ after) → ReadsLast m half ops before v n body opening
  pub repaired : IsRepaired m half ops opening
