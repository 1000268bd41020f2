use Rattle.std.specs.Prelude.{ℕ, ◌≡◌, ◌+◌, ◌-◌, ◌<◌, ◌≤◌}
use Rattle.linear_volume.specs.declared.Linear.{Linear}

-- the extent has this virtual block
abbrev pub LinearHolds : Linear → ℕ → Type 0
LinearHolds e v = (e.start ≤ v) × (v < e.start + e.len)

-- the device and the address of a block: as far from the first address as the block is from the first block
abbrev pub linear_place : Linear → ℕ → ℕ × ℕ
linear_place e v = (e.dev, e.at + (v - e.start))

-- how many blocks the extent has from this one on
abbrev pub linear_run : Linear → ℕ → ℕ
linear_run e v = e.start + e.len - v

-- The n blocks from v on are the extent's, on one device at consecutive addresses.
abbrev pub LinearRuns : Linear → ℕ → ℕ → Type 0
LinearRuns e v n = (k : ℕ) → k < n → LinearHolds e (v + k) × (linear_place e (v + k) ≡ ((linear_place e v).0, (linear_place e v).1 + k))
