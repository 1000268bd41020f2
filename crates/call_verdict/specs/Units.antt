use Rattle.std.specs.Prelude.{ℕ, ltb, if◌then◌else◌, List, Option, Some, None}
use Rattle.pi_tuple.specs.declared.checks.PiType.{PiType}
use Rattle.rig_api.specs.Headers.{is_spec, type_of}
use Rattle.rig_api.specs.declared.units.UnitSpec.{UnitSpec}
use Rattle.script_words.specs.Cuts.{Cut, cut}
use Rattle.script_words.specs.Decimals.{number_in}

-- the protection type of a number: 0 to 3
abbrev pub type_numbered : ℕ → Option PiType
type_numbered n = if ltb n 4 then Some (type_of n) else None

abbrev pub type_by : Option ℕ → Option PiType
type_by None = None
type_by (Some n) = type_numbered n

abbrev pub type_in : List ℕ → Option PiType
type_in word = type_by (number_in word)

-- a unit that an image may have
abbrev pub checked : UnitSpec → Option UnitSpec
checked u = if is_spec u then Some u else None

-- the unit of these parts, where each is a number of its kind and an image may have such a unit
abbrev pub spec_of : Option PiType → Option ℕ → Option ℕ → Option ℕ → Option UnitSpec
spec_of None blocks size first = None
spec_of (Some ty) None size first = None
spec_of (Some ty) (Some blocks) None first = None
spec_of (Some ty) (Some blocks) (Some size) None = None
spec_of (Some ty) (Some blocks) (Some size) (Some first) = checked (record { ty = ty; blocks = blocks; size = size; first = first })

-- SIZE:FIRST
abbrev pub placed : Option PiType → List ℕ → Option Cut → Option UnitSpec
placed ty blocks None = None
placed ty blocks (Some c) = spec_of ty (number_in blocks) (number_in c.before) (number_in c.after)

-- BLOCKS, with size 512 and first address 0, or BLOCKS:SIZE:FIRST
abbrev pub sized : Option PiType → List ℕ → Option Cut → Option UnitSpec
sized ty rest None = spec_of ty (number_in rest) (Some 512) (Some 0)
sized ty rest (Some c) = placed ty c.before (cut 58 c.after)

abbrev pub unit_of : Option Cut → Option UnitSpec
unit_of None = None
unit_of (Some c) = sized (type_in c.before) c.after (cut 58 c.after)

-- the unit of a word T:BLOCKS or T:BLOCKS:SIZE:FIRST
abbrev pub unit_in : List ℕ → Option UnitSpec
unit_in word = unit_of (cut 58 word)
