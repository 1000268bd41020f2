-- What a script does to an image whose bytes are known. The schedule, which says in what order commands are sent, merged and answered, is part of the script's text; no sentence here hangs on it, nor on the script's limits.
use Rattle.std.specs.Prelude.{ℕ, ◌≡◌, List, ◌++◌, take, None, Ok}
use Rattle.rig_api.specs.Frames.{joined}
use Rattle.rig_api.specs.Telling.{own_units}
use Rattle.dix_adapter.specs.Ways.{blocks_told}
use Rattle.stack_ops.specs.declared.reply.Reply.{Reply}
use Rattle.volume_table.specs.Faults.{table_fault}
use Rattle.volume_table.specs.Tables.{Table}
use Rattle.block_path.specs.Acts.{State}
use Rattle.walk_laws.specs.ScriptWalk.{script_replies, script_walk}
use Rattle.walk_laws.specs.Settings.{Setting}
use Rattle.walk_laws.specs.UnderMap.{AreClean}
use Rattle.run_command.specs.Passed.{binding_fault, script_in, Script}
use Rattle.run_command.specs.Verdict.{devices_of, opening_told, setting_told, table_over}

-- the stored blocks of an image, one unit's behind another's
abbrev pub blocks_in : List ℕ → List (List ℕ)
blocks_in image = blocks_told (own_units image)

-- the image with these stored blocks behind its header
abbrev pub image_with : List ℕ → List (List ℕ) → List ℕ
image_with image blocks = take 512 image ++ joined blocks

-- the script's volume over the image's units
abbrev pub volume_over : Script → List ℕ → Table
volume_over script image = table_over script.entries (devices_of image)

-- what the script runs with over the image: its mode, its volume, its faults, and a target behind each unit
abbrev pub setting_over : Script → List ℕ → Setting
setting_over script image = setting_told script (volume_over script image) (own_units image)

-- with what it begins: pages of zeros, and the image's blocks
abbrev pub opening_over : Script → List ℕ → State
opening_over script image = opening_told script (own_units image)

-- what its ops reply, and what they leave in pages and blocks, done one after another at the target
abbrev pub replied : Script → List ℕ → List Reply
replied script image = script_replies (setting_over script image) script.ops (opening_over script image)

abbrev pub left_by : Script → List ℕ → State
left_by script image = script_walk (setting_over script image) script.ops (opening_over script image)

-- The text is this script of the language, and neither its volume nor one of its lines is at fault over the image's units.
pub record FitsImage (script : Script) (image text : List ℕ) : Type 0 where
  pub language : script_in text ≡ Ok script
  pub volume : table_fault script.entries (devices_of image) script.block ≡ None
  pub lines : binding_fault script (volume_over script image) (devices_of image) ≡ None

-- Each block of the volume is clean.
abbrev pub IsClean : Script → List ℕ → Type 0
IsClean script image = AreClean (setting_over script image) (blocks_in image)
