use Rattle.std.specs.Prelude.{Bool, eqb, ◌&&◌}
use Rattle.rig_api.specs.declared.units.UnitSpec.{UnitSpec}

-- a unit that version 1 can tell
abbrev pub is_small : UnitSpec → Bool
is_small u = eqb u.size 512 && eqb u.first 0
