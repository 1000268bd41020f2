use Rattle.std.specs.Prelude.{ℕ, List, [], ◌∷◌}
use Rattle.pi_tuple.specs.declared.checks.PiType.TheVariants.{One}
use Rattle.script_text.specs.Generator.{big, big_entries, ops_from}
use Rattle.run_command.specs.Premises.{opening_told, setting_told}
use Rattle.stack_ops.specs.declared.reply.Reply.{Reply}
use Rattle.rig_api.specs.Image.{all_fresh}
use Rattle.rig_api.specs.Target.{Stored}
use Rattle.rig_api.specs.declared.units.UnitSpec.{UnitSpec}
use Rattle.volume_table.specs.Tables.{Table}
use Rattle.walk_laws.specs.PlainMap.{plain_replies}
use Rattle.walk_laws.specs.Settings.{Setting}
use Rattle.walk_laws.specs.UnderMap.{opened}

-- What a generated script replies, by its two numbers alone.

-- each of the two units
abbrev pub big_unit : UnitSpec
big_unit = record { ty = One; blocks = 4096; size = 512; first = 0 }

-- a unit whose blocks are as formatting leaves them
abbrev pub fresh_unit : UnitSpec → Stored
fresh_unit u = record { ty = u.ty; size = u.size; first = u.first; blocks = all_fresh u }

unfoldable pub big_units : List Stored
big_units = fresh_unit big_unit ∷ fresh_unit big_unit ∷ []

-- the volume over them
abbrev pub big_table : Table
big_table = record { entries = big_entries; ty = One }

abbrev pub big_setting : (n seed : ℕ) → Setting
big_setting n seed = setting_told (big n seed) big_table big_units

-- The replies of n ops from a seed, done one after another on pages of zeros and a plain map of the formatted blocks: no adapter, no target and no schedule has a part in them.
abbrev pub big_replies : (n seed : ℕ) → List Reply
big_replies n seed = plain_replies (big_setting n seed) (ops_from n seed) (opened (big_setting n seed) (opening_told (big n seed) big_units))
