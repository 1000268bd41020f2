use Rattle.std.specs.Prelude.{ℕ, ◌≡◌, ◌+◌, ◌<◌, ◌≤◌, Bool, false, ◌⊎◌, List, slice_index_or}
pub use Rattle.pi_guard.specs.Changes.{IsChange}
use Rattle.wide_guard.specs.Reflected.{low_first}

-- the bit at this place of the bytes' bits: byte by byte, the lowest bit of a byte first
abbrev pub bit_in : List ℕ → ℕ → Bool
bit_in bytes place = slice_index_or (low_first bytes) place false

-- The messages agree in each bit but so many neighbouring ones.
abbrev pub IsBurst : ℕ → ℕ → List ℕ → List ℕ → Type 0
IsBurst width first a b = (k : ℕ) → (k < first) ⊎ (first + width ≤ k) → bit_in a k ≡ bit_in b k
