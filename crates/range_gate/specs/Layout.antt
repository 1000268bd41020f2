-- A footprint and its layout.
use Rattle.std.specs.Prelude.{◌≡◌, ◌<◌, ℕ, true, false, List, length, slice_index_or}
use Rattle.std.specs.List.Sorted.{IsPermutation}
use Rattle.range_gate.specs.declared.footprint.Footprint.{Footprint}
use Rattle.range_gate.specs.Prints.{KeptPrint, chosen}

pub record IsLayoutOf (f : Footprint) (p : KeptPrint) : Type 0 where
  pub alone : p.alone ≡ f.alone
  pub blocks : p.blocks ≡ f.blocks
  pub reads : IsPermutation (chosen false f.bytes) p.reads
  pub writes : IsPermutation (chosen true f.bytes) p.writes

-- the layouts of these footprints, one for each
pub record AreLayoutsOf (fs : List Footprint) (ps : List KeptPrint) : Type 0 where
  pub count : length ps ≡ length fs
  pub each : (i : ℕ) (d : Footprint) (e : KeptPrint) → i < length fs → IsLayoutOf (slice_index_or fs i d) (slice_index_or ps i e)
