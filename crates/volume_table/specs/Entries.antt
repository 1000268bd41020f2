use Rattle.std.specs.Prelude.{ℕ, ◌+◌, ◌≤◌, Bool, nat_le, nat_lt, ◌&&◌, List, [], ◌∷◌, length, map}
use Rattle.linear_volume.specs.Extents.{linear_place, linear_run}
use Rattle.stripe_volume.specs.declared.legs.Leg.{Leg}
use Rattle.stripe_volume.specs.Stripes.{leg, leg_len, stripe_place, stripe_run}
use Rattle.volume_table.specs.declared.entry.Entry.{Entry}
use Rattle.volume_table.specs.declared.entry.Entry.TheVariants.{Linear, Stripe}
use Rattle.volume_table.specs.declared.extent.Extent.{Extent}
use Rattle.volume_table.specs.declared.TheConstants.{MOST_LENGTH}

abbrev pub entry_start : Entry → ℕ
entry_start (Linear e) = e.start
entry_start (Stripe s) = s.start

abbrev pub entry_len : Entry → ℕ
entry_len (Linear e) = e.len
entry_len (Stripe s) = s.len

-- The entry has this virtual block.
abbrev pub is_held : ℕ → Entry → Bool
is_held v e = nat_le (entry_start e) v && nat_lt v (entry_start e + entry_len e)

-- the device and the address that the entry's formula gives for a block
abbrev pub entry_place : Entry → ℕ → ℕ × ℕ
entry_place (Linear e) v = linear_place e v
entry_place (Stripe s) v = stripe_place s v

-- for how many blocks from this one on it gives one device and consecutive addresses
abbrev pub entry_run : Entry → ℕ → ℕ
entry_run (Linear e) v = linear_run e v
entry_run (Stripe s) v = stripe_run s v

abbrev pub leg_extent : ℕ → Leg → Extent
leg_extent n l = record { dev = l.dev; at = l.at; len = n }

-- the extents on devices: one, or one for each leg
abbrev pub extents : Entry → List Extent
extents (Linear e) = record { dev = e.dev; at = e.at; len = e.len } ∷ []
extents (Stripe s) = map (leg_extent (leg_len s)) s.legs

abbrev pub first_device : Entry → ℕ
first_device (Linear e) = e.dev
first_device (Stripe s) = (leg s 0).dev

-- 1 to 1,048,576 blocks
abbrev pub IsLength : ℕ → Type 0
IsLength n = (1 ≤ n) × (n ≤ MOST_LENGTH)

-- The lengths, the chunk and the number of legs are in their ranges.
abbrev pub IsInRange : Entry → Type 0
IsInRange (Linear e) = IsLength e.len
IsInRange (Stripe s) = IsLength s.len × (1 ≤ s.chunk) × (1 ≤ length s.legs) × (length s.legs ≤ 8)
