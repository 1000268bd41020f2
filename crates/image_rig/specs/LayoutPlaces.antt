use Rattle.std.specs.Prelude.{ℕ, ◌+◌, ◌-◌, ◌*◌, List, take, slice_index_or}
use Rattle.rig_api.specs.Frames.{stored_size}
use Rattle.rig_api.specs.Headers.{all_bytes}
use Rattle.rig_api.specs.declared.units.UnitSpec.{UnitSpec}
use Rattle.rig_api.specs.Telling.{no_spec}

-- where a unit's blocks begin in the image
abbrev pub place_of : List UnitSpec → ℕ → ℕ
place_of us dev = 512 + all_bytes (take dev us)

-- the bytes of a stored block of a unit
abbrev pub block_len : List UnitSpec → (dev : ℕ) → ℕ
block_len us dev = stored_size (slice_index_or us dev no_spec).ty (slice_index_or us dev no_spec).size

-- where the block at this address begins
abbrev pub block_place : List UnitSpec → (dev lba : ℕ) → ℕ
block_place us dev lba =
    place_of us dev + (lba - (slice_index_or us dev no_spec).first) * stored_size (slice_index_or us dev no_spec).ty (slice_index_or us dev no_spec).size
