use Rattle.std.specs.Prelude.{ℕ, ◌≡◌, List, take, drop}
use Rattle.dix_base.specs.Told.{over}
use Rattle.fault_schedule.specs.Altered.{byte_at, xored_from}
use Rattle.rig_api.specs.declared.units.UnitSpec.{UnitSpec}
use Rattle.rig_api.specs.declared.change.Change.{Change}
use Rattle.rig_api.specs.declared.change.Change.TheVariants.{Flip, Copy}
use Rattle.image_rig.specs.LayoutPlaces.{block_len, block_place}

-- where the block begins that a change reads
abbrev pub source_place : List UnitSpec → (dev lba : ℕ) → Change → ℕ
source_place us dev lba (Flip off bytes) = block_place us dev lba
source_place us dev lba (Copy from at) = block_place us from at

-- what it makes of that block
abbrev pub altered_by : Change → List ℕ → List ℕ
altered_by (Flip off bytes) block = xored_from (byte_at off bytes) 0 block
altered_by (Copy from at) block = block

-- The block at this address of a unit is changed, and all else is as before.
abbrev pub IsChanged : List UnitSpec → (dev lba : ℕ) → Change → (was is : List ℕ) → Type 0
IsChanged us dev lba change was is = is ≡ over (block_place us dev lba) (altered_by change (take (block_len us dev) (drop (source_place us dev lba change) was))) was
