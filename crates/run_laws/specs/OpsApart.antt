use Rattle.std.specs.Prelude.{ℕ, ◌≡◌, ◌*◌, ◌<◌, Bool, ◌||◌, not, eqb, nat_eq, List, [], ◌∷◌, ◌++◌, nat_abs}
use Rattle.std.specs.List.{All, IsDistinct}
use Rattle.fault_schedule.specs.Altered.{shift_of}
use Rattle.fault_schedule.specs.declared.fault.Crossing.TheVariants.{AdapterToTarget, MediumToTarget, TargetToMedium}
use Rattle.page_pool.specs.Places.{total}
use Rattle.range_gate.specs.Cells.{AllInPages, cells_of}
use Rattle.range_gate.specs.Conflicts.{Conflict}
use Rattle.walk_laws.specs.Passed.{Op, Fetch, FetchPi, Fill, Overwrite, Put, Seal, Show, Wait, Write, WritePi, bytes_of, cells_touched, footprint, stored_cell, Apart, volume_len}
use Rattle.walk_laws.specs.CalmRun.{AreVolumeBlocks}
use Rattle.walk_laws.specs.Settings.{Setting, block_of, route}
use Rattle.walk_laws.specs.UnderMap.{home}
use Rattle.pi_tuple.specs.declared.TheConstants.{TUPLE}

-- Ops that don't conflict: what is asked of them, and that their moves don't either.

-- Some line shifts the addresses of op i.
abbrev pub is_shifted : Setting → (i : ℕ) → Bool
is_shifted m i =
    not (eqb (nat_abs (shift_of m.site.faults AdapterToTarget i)) 0)
    || (not (eqb (nat_abs (shift_of m.site.faults MediumToTarget i)) 0) || not (eqb (nat_abs (shift_of m.site.faults TargetToMedium i)) 0))

-- Op i and op j conflict, by what they touch.
abbrev pub OpsConflict : Setting → (i : ℕ) → Op → (j : ℕ) → Op → Type 0
OpsConflict m i op j other = Conflict (footprint op (is_shifted m i)) (footprint other (is_shifted m j))

-- each virtual block has a cell of its own
abbrev pub OneCellEach : Setting → Type 0
OneCellEach m = (u v : ℕ) → u < volume_len m.entries → v < volume_len m.entries → home m u ≡ home m v → u ≡ v

-- a request's lists have its blocks, and these lie in the volume
abbrev pub HasBlocks : Setting → Op → Type 0
HasBlocks m (Fill seg byte) = Unit {0}
HasBlocks m (Put page off bytes) = Unit {0}
HasBlocks m (Show seg) = Unit {0}
HasBlocks m (Seal n body tuples app rtag) = Unit {0}
HasBlocks m (Write v n body app) = AreVolumeBlocks m v n (total body)
HasBlocks m (Fetch v n body) = AreVolumeBlocks m v n (total body)
HasBlocks m (WritePi v n body tuples) = AreVolumeBlocks m v n (total body) × (total tuples ≡ n * TUPLE)
HasBlocks m (FetchPi v n body tuples) = AreVolumeBlocks m v n (total body) × (total tuples ≡ n * TUPLE)
HasBlocks m (Overwrite dev lba change) = Unit {0}
HasBlocks m Wait = Unit {0}

-- An op lies in so many bytes of pages, and in the volume.
pub record IsPlaced (m : Setting) (bytes : ℕ) (op : Op) : Type 0 where
  pub in_pages : AllInPages (bytes_of op)
  pub reads : All (λ i. i < bytes) (cells_touched op).reads
  pub writes : All (λ i. i < bytes) (cells_touched op).writes
  pub blocks : HasBlocks m op

-- none of these conflicts with any of those
abbrev pub NoneMeet : {A : Type 0} → (A → A → Bool) → List A → List A → Type 0
NoneMeet conflicts [] ys = Unit {0}
NoneMeet conflicts (x ∷ xs) ys = Apart conflicts x ys × NoneMeet conflicts xs ys

-- no two of n blocks from v on, of op i, are stored in one cell, also where a shift moves them
abbrev pub AreStoredApart : Setting → (i v n : ℕ) → Type 0
AreStoredApart m i v n = (j k : ℕ) → j < n → k < n → stored_cell m.site (route m (block_of i v j)) ≡ stored_cell m.site (route m (block_of i v k)) → j ≡ k

-- The blocks of a request are spread: no two are stored in one cell, and no cell of pages is there twice in lists of which one is written.
abbrev pub IsSpread : Setting → (i : ℕ) → Op → Type 0
IsSpread m i (Fill seg byte) = ⊥
IsSpread m i (Put page off bytes) = ⊥
IsSpread m i (Show seg) = ⊥
IsSpread m i (Seal n body tuples app rtag) = ⊥
IsSpread m i (Write v n body app) = AreStoredApart m i v n
IsSpread m i (Fetch v n body) = IsDistinct nat_eq (cells_of body)
IsSpread m i (WritePi v n body tuples) = AreStoredApart m i v n × IsDistinct nat_eq (cells_of body ++ cells_of tuples)
IsSpread m i (FetchPi v n body tuples) = IsDistinct nat_eq (cells_of body ++ cells_of tuples)
IsSpread m i (Overwrite dev lba change) = ⊥
IsSpread m i Wait = ⊥
