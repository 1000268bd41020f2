use Rattle.std.specs.Prelude.{ℕ, ◌≡◌, ◌-◌, List, length, take, drop, Option, Some, None}
use Rattle.dix_base.specs.Told.{Becomes}
use Rattle.rig_api.specs.Frames.{frames_of, placed}
use Rattle.rig_api.specs.Image.{units_in}
use Rattle.rig_api.specs.Target.{Stored}
use Rattle.rig_api.specs.declared.units.UnitSpec.{UnitSpec}
use Rattle.target_model.specs.Served.{AllLong}
use Rattle.rig_api.specs.Telling.{unit_at, with_blocks}
use Rattle.image_rig.specs.LayoutPlaces.{block_len}
use Rattle.image_blocks.specs.declared.stretch.Stretch.{Stretch}

-- the stored blocks of a stretch
abbrev pub blocks_at : List Stored → Stretch → List (List ℕ)
blocks_at found s = take s.count (drop (s.first - (unit_at found s.dev).first) (unit_at found s.dev).blocks)

-- the units with these in the stretch's place
abbrev pub with_stretch : List Stored → Stretch → List (List ℕ) → List Stored
with_stretch found s blocks = with_blocks found s.dev (placed (s.first - (unit_at found s.dev).first) blocks (unit_at found s.dev).blocks)

-- the bytes of a stretch, block by block
abbrev pub blocks_of : List UnitSpec → Stretch → List ℕ → List (List ℕ)
blocks_of us s bytes = frames_of (block_len us s.dev) s.count bytes

-- These are the stored blocks of a stretch, where the image is told.
abbrev pub AreStored : List UnitSpec → Stretch → List (List ℕ) → Option (List ℕ) → Type 0
AreStored us s blocks None = Unit {0}
AreStored us s blocks (Some image) = blocks ≡ blocks_at (units_in us image) s

-- The blocks are as many as the stretch has, each of the length that is stored; where the image is told, they are the stored ones.
pub record HasStretch (us : List UnitSpec) (s : Stretch) (blocks : List (List ℕ)) (image : Option (List ℕ)) : Type 0 where
  pub many : length blocks ≡ s.count
  pub long : AllLong (block_len us s.dev) blocks
  pub stored : AreStored us s blocks image

-- Where the image is told, its units are as before, with these blocks in the stretch's place.
abbrev pub ArePut : List UnitSpec → Stretch → List (List ℕ) → (old new : Option (List ℕ)) → Type 0
ArePut us s blocks old new = Becomes (λ was is. units_in us is ≡ with_stretch (units_in us was) s blocks) old new

-- Where the image is told, its units are as before, with some blocks of their length in the stretch's place.
abbrev pub AreLeft : List UnitSpec → Stretch → (old new : Option (List ℕ)) → Type 0
AreLeft us s old new = Becomes (λ was is. (left : List (List ℕ)) × AllLong (block_len us s.dev) left × (length left ≡ s.count) × (units_in us is ≡ with_stretch (units_in us was) s left)) old new
