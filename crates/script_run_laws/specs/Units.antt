use Rattle.std.specs.Prelude.{ℕ, ◌≡◌, ◌+◌, List, [], ◌∷◌, length}
use Rattle.std.specs.List.{All}
use Rattle.rig_api.specs.Frames.{stored_size}
use Rattle.rig_api.specs.Target.{Stored}
use Rattle.rig_api.specs.declared.units.UnitSpec.{UnitSpec}

-- how many blocks all units have
abbrev pub all_blocks : List UnitSpec → ℕ
all_blocks [] = 0
all_blocks (u ∷ us) = u.blocks + all_blocks us

-- each block of each unit has the size of a stored block
abbrev pub AreStored : List Stored → Type 0
AreStored us = All (λ u. All (λ block. length block ≡ stored_size u.ty u.size) u.blocks) us
