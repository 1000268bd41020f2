use Rattle.std.specs.Prelude.{ℕ, ◌+◌, ◌-◌, ◌≤◌, ◌<◌, min, Bool, ◌&&◌, leb, ltb, if◌then◌else◌, List, length, slice_index_or, Result, Ok, Err, codes}
use Rattle.rig_api.specs.declared.units.UnitSpec.{UnitSpec}
use Rattle.rig_api.specs.Telling.{no_spec}
use Rattle.image_blocks.specs.declared.stretch.Stretch.{Stretch}
use Rattle.image_blocks.specs.declared.stretch.PlaceFault.{PlaceFault}
use Rattle.image_blocks.specs.declared.stretch.PlaceFault.TheVariants.{NoDevice, NoBlock}

-- the unit of this number
abbrev pub spec_of : List UnitSpec → (dev : ℕ) → UnitSpec
spec_of us dev = slice_index_or us dev no_spec

-- The unit has all of so many blocks from this address on.
abbrev pub has_blocks : UnitSpec → (first count : ℕ) → Bool
has_blocks u first count = leb u.first first && leb (first + count) (u.first + u.blocks)

-- all blocks of a unit, where there is one of this number
abbrev pub whole_in : List UnitSpec → (dev : ℕ) → Result Stretch PlaceFault
whole_in us dev = if ltb dev (length us) then Ok (record { dev = dev; first = (spec_of us dev).first; count = (spec_of us dev).blocks }) else Err NoDevice

-- so many blocks of a unit from this address on, where there is one of this number and it has them all
abbrev pub part_in : List UnitSpec → (dev first count : ℕ) → Result Stretch PlaceFault
part_in us dev first count =
    if ltb dev (length us) then (if has_blocks (spec_of us dev) first count then Ok (record { dev = dev; first = first; count = count }) else Err NoBlock) else Err NoDevice

-- The units have all blocks of the stretch.
pub record IsStretch (us : List UnitSpec) (s : Stretch) : Type 0 where
  pub device : s.dev < length us
  pub first : (spec_of us s.dev).first ≤ s.first
  pub last : s.first + s.count ≤ (spec_of us s.dev).first + (spec_of us s.dev).blocks

-- the first blocks of a stretch, at most so many
abbrev pub front_in : Stretch → (most : ℕ) → Stretch
front_in s most = record { dev = s.dev; first = s.first; count = min s.count most }

-- the blocks behind its first ones
abbrev pub behind_in : Stretch → (n : ℕ) → Stretch
behind_in s n = record { dev = s.dev; first = s.first + n; count = s.count - n }

-- the name of a fault
abbrev pub place_fault_name : PlaceFault → List ℕ
place_fault_name NoDevice = codes "NoDevice"
place_fault_name NoBlock = codes "NoBlock"
