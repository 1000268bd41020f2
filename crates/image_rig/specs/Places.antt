use Rattle.std.specs.Prelude.{ℕ, Bool, ◌&&◌, eqb, List, slice_index_or}
use Rattle.rig_api.specs.Frames.{stored_size}
use Rattle.rig_api.specs.declared.units.UnitSpec.{UnitSpec}
use Rattle.target_model.specs.declared.unit.LogicalUnit.{LogicalUnit}
use Rattle.image_rig.specs.LayoutPlaces.{place_of}
use Rattle.rig_api.specs.Telling.{has_address, no_spec}
use Rattle.rig_api.specs.declared.change.Change.{Change}
use Rattle.rig_api.specs.declared.change.Change.TheVariants.{Flip, Copy}

-- the unit behind a device, with its place
abbrev pub logical_of : List UnitSpec → ℕ → LogicalUnit
logical_of us dev = record {
  ty = (slice_index_or us dev no_spec).ty;
  blocks = (slice_index_or us dev no_spec).blocks;
  at = place_of us dev;
  size = (slice_index_or us dev no_spec).size;
  first = (slice_index_or us dev no_spec).first;
}

-- a change that these units let be made
abbrev pub can_change_in : List UnitSpec → (dev lba : ℕ) → Change → Bool
can_change_in us dev lba (Flip off bytes) = has_address (slice_index_or us dev no_spec) lba
can_change_in us dev lba (Copy from at) =
    has_address (slice_index_or us dev no_spec) lba
    && (has_address (slice_index_or us from no_spec) at && eqb (stored_size (slice_index_or us from no_spec).ty (slice_index_or us from no_spec).size) (stored_size (slice_index_or us dev no_spec).ty (slice_index_or us dev no_spec).size))
