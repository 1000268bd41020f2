use Rattle.std.specs.Prelude.{ℕ, ◌≡◌, ◌<◌, ◌⊎◌, true, false, List, [], length, map, Option, Some, None, Ok}
use Rattle.pi_tuple.specs.Finds.{is_zero}
use Rattle.rig_api.specs.Headers.{is_layout}
use Rattle.rig_api.specs.Image.{formatted, fresh_from, units_in}
use Rattle.rig_api.specs.Target.{Stored}
use Rattle.rig_api.specs.declared.units.UnitSpec.{UnitSpec}
use Rattle.target_model.specs.Served.{AllLong}
use Rattle.rig_api.specs.Head.{head_fault, head_of}
use Rattle.rig_api.specs.Telling.{own_units, unit_at}
use Rattle.rig_discovery.specs.Discovery.{info_of}
use Rattle.volume_table.specs.Places.{place_in, volume_len}
use Rattle.volume_table.specs.Tables.{Table}
use Rattle.volume_table.specs.declared.entry.Entry.{Entry}
use Rattle.dix_adapter.specs.Ways.{blocks_told, cell_in, shapes_of}
use Rattle.walk_laws.specs.PlainMap.{as_expected}
use Rattle.walk_laws.specs.Settings.{Setting}
use Rattle.walk_laws.specs.UnderMap.{AreClean, IsClean}
use Rattle.run_laws.specs.ShownRun.{DevicesAreClean}
use Rattle.script_text.specs.declared.script.Script.{Script}
use Rattle.image_laws.specs.Passed.{devices_of, setting_told, HasTable}
use Rattle.image_blocks.specs.Places.{whole_in}
use Rattle.image_blocks.specs.declared.stretch.Stretch.{Stretch}
use Rattle.image_text.specs.Dumps.{imported, imported_block}
use Rattle.image_text.specs.Ends.{HasTaken, KeepsOutside}
use Rattle.image_text.specs.declared.layout.Layout.TheVariants.{Plain}
use Rattle.image_laws.specs.Over.{FitsImage, blocks_in, setting_over, volume_over}
use Rattle.image_laws.specs.Over as over

-- What a plain import makes of a user's own data, as the premises of a run have it.

-- The blocks of a unit are those that a plain import makes of as many pieces, in the place of all of them.
pub record IsImported (u : Stored) : Type 0 where
  pub before : List (List ℕ)
  pub pieces : List (List ℕ)
  pub many : length before ≡ length pieces
  pub long : AllLong u.size pieces
  pub blocks : u.blocks ≡ imported Plain u.ty u.size u.first before pieces

-- They are so, or they are those that `format` makes.
abbrev pub IsMade : Stored → Type 0
IsMade u = IsImported u ⊎ (u.blocks ≡ fresh_from u.ty u.size u.first (length u.blocks))

-- So it is of each unit on which a volume of these entries lies.
abbrev pub AreMade : List Entry → List Stored → Type 0
AreMade entries us = (v : ℕ) → v < volume_len entries → IsMade (unit_at us (place_in entries v).0)

-- ---- how units come to be so

-- Each block that a plain import makes is clean, where tuples are and the application tag 0 is the expected one.
abbrev pub MakesClean : Type 0
MakesClean = (m : Setting) (lba : ℕ) (block piece : List ℕ) → is_zero m.ty ≡ false → as_expected m 0 ≡ true → length piece ≡ m.size → IsClean m lba (imported_block Plain m.ty m.size lba block piece)

-- A formatted image has such units.
abbrev pub FormatMakes : Type 0
FormatMakes = (units : List UnitSpec) (dev : ℕ) → is_layout units ≡ true → IsMade (unit_at (units_in units (formatted units)) dev)

-- Where pieces for all blocks of a unit came, it is so, and each other unit is as it was.
abbrev pub ImportMakes : Type 0
ImportMakes = (us : List UnitSpec) (dev : ℕ) (s : Stretch) (more image image_after : List ℕ) (left left_after : Option (List ℕ)) → whole_in us dev ≡ Ok s → HasTaken Plain us s s.count more [] (Some image) (Some image_after) left left_after →
    IsImported (unit_at (units_in us image_after) dev) × ((other : ℕ) → (other ≡ dev → ⊥) → unit_at (units_in us image_after) other ≡ unit_at (units_in us image) other)

-- What is kept outside of a place has the image's head, which tells the same units.
abbrev pub KeepsHead : Type 0
KeepsHead = (us : List UnitSpec) (s : Stretch) (image image_after : List ℕ) → KeepsOutside us s (Some image) (Some image_after) → head_of image_after ≡ head_of image

-- ---- what a run asks of them

-- Over units that are told, each block of the devices of any volume with tuples is clean, a mirror's too, where the application tag 0 is the expected one.
abbrev pub HoldsClean : Type 0
HoldsClean = (m : Setting) (us : List Stored) → is_zero m.ty ≡ false → as_expected m 0 ≡ true → m.site.cell ≡ cell_in (shapes_of us) → AreMade m.entries us → DevicesAreClean m (map info_of (shapes_of us)) (blocks_told us)

-- So in a run of a script without an `expect` line: the blocks of the volume are clean, and where it has tuples each block of its devices is.
abbrev pub RunsOnClean : Type 0
RunsOnClean = (script : Script) (table : Table) (us : List Stored) → HasTable script (map info_of (shapes_of us)) table → script.mode.mask ≡ 0 → AreMade table.entries us →
    AreClean (setting_told script table us) (blocks_told us) × (is_zero table.ty ≡ false → DevicesAreClean (setting_told script table us) (map info_of (shapes_of us)) (blocks_told us))

-- Over the bytes of an image with a right head, whose units and volume the script fits.
abbrev pub ClaimsOnClean : Type 0
ClaimsOnClean = (script : Script) (image text : List ℕ) → head_fault (head_of image) ≡ None → FitsImage script image text → script.mode.mask ≡ 0 → AreMade script.entries (own_units image) →
    over.IsClean script image × (is_zero (volume_over script image).ty ≡ false → DevicesAreClean (setting_over script image) (devices_of image) (blocks_in image))
