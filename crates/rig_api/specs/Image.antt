use Rattle.std.specs.Prelude.{ℕ, zero, suc, ◌+◌, List, [], ◌∷◌, ◌++◌, drop, replicate}
use Rattle.pi_tuple.specs.Finds.{own_tag}
use Rattle.pi_tuple.specs.declared.checks.PiType.{PiType}
use Rattle.pi_tuple.specs.declared.checks.PiType.TheVariants.{Zero, One, Two, Three}
use Rattle.rig_api.specs.Frames.{stored_size, frame_of, frames_of, joined}
use Rattle.rig_api.specs.Headers.{bytes_of, header, version_for}
use Rattle.rig_api.specs.Target.{Stored}
use Rattle.rig_api.specs.declared.units.Version.TheVariants.{Second}
use Rattle.rig_api.specs.declared.units.UnitSpec.{UnitSpec}

-- An image is a header of 512 bytes and the stored blocks of its units, one unit after another.

abbrev pub unit_from : UnitSpec → List ℕ → Stored
unit_from u bytes = record { ty = u.ty; size = u.size; first = u.first; blocks = frames_of (stored_size u.ty u.size) u.blocks bytes }

-- the units whose blocks are these bytes
abbrev pub units_from : List UnitSpec → List ℕ → List Stored
units_from [] bytes = []
units_from (u ∷ us) bytes = unit_from u bytes ∷ units_from us (drop (bytes_of u) bytes)

-- the units that are found in an image
abbrev pub units_in : List UnitSpec → List ℕ → List Stored
units_in us image = units_from us (drop 512 image)

-- a formatted block: zeros, and where the unit has tuples the guard of zeros, which is 0, and the block's own reference tag
abbrev pub fresh : PiType → (size lba : ℕ) → List ℕ
fresh Zero size lba = replicate size 0
fresh One size lba = frame_of (replicate size 0) (record { guard = 0; app = 0; rtag = own_tag One lba })
fresh Two size lba = frame_of (replicate size 0) (record { guard = 0; app = 0; rtag = own_tag Two lba })
fresh Three size lba = frame_of (replicate size 0) (record { guard = 0; app = 0; rtag = own_tag Three lba })

-- so many of them from this address on
abbrev pub fresh_from : PiType → (size lba : ℕ) → ℕ → List (List ℕ)
fresh_from ty size lba zero = []
fresh_from ty size lba (suc n) = fresh ty size lba ∷ fresh_from ty size (lba + 1) n

-- the blocks of a formatted unit
abbrev pub all_fresh : UnitSpec → List (List ℕ)
all_fresh u = fresh_from u.ty u.size u.first u.blocks

abbrev pub fresh_bytes : List UnitSpec → List ℕ
fresh_bytes [] = []
fresh_bytes (u ∷ us) = joined (all_fresh u) ++ fresh_bytes us

-- the formatted image of these units, in version 1 where that can tell them
unfoldable pub formatted : List UnitSpec → List ℕ
formatted us = header (version_for us) us ++ fresh_bytes us

-- an image with the header of version 2 that tells these units in place of its own
abbrev pub migrated : List UnitSpec → List ℕ → List ℕ
migrated us image = header Second us ++ drop 512 image
