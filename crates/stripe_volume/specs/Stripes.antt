use Rattle.std.specs.Prelude.{ℕ, ◌≡◌, ◌+◌, ◌-◌, ◌*◌, ◌/◌, ◌%◌, ◌^◌, ◌<◌, ◌≤◌, Bool, false, not, eqb, nat_lt, ◌&&◌, ◌||◌, List, [], ◌∷◌, length, slice_index_or}
use Rattle.std.specs.List.{list_any}
use Rattle.stripe_volume.specs.declared.legs.Leg.{Leg}
use Rattle.stripe_volume.specs.declared.stripe.Stripe.{Stripe}

-- the extent has this virtual block
abbrev pub StripeHolds : Stripe → ℕ → Type 0
StripeHolds s v = (s.start ≤ v) × (v < s.start + s.len)

-- There is a block in a chunk, and a leg.
abbrev pub HasLegs : Stripe → Type 0
HasLegs s = (1 ≤ s.chunk) × (1 ≤ length s.legs)

-- leg i
abbrev pub leg : Stripe → ℕ → Leg
leg s i = slice_index_or s.legs i (record { dev = 0; at = 0 })

-- The place of a block: its chunk goes to the legs in turn, and as many blocks into the leg's next chunk as into its own.
abbrev pub place_on : Stripe → ℕ → ℕ → ℕ × ℕ
place_on s q r = ((leg s (q % length s.legs)).dev, (leg s (q % length s.legs)).at + q / length s.legs * s.chunk + r)

abbrev pub stripe_place : Stripe → ℕ → ℕ × ℕ
stripe_place s v = place_on s ((v - s.start) / s.chunk) ((v - s.start) % s.chunk)

-- how many blocks the chunk has from this block on
abbrev pub stripe_run : Stripe → ℕ → ℕ
stripe_run s v = s.chunk - (v - s.start) % s.chunk

-- The length is a multiple of a chunk on each leg.
abbrev pub IsWhole : Stripe → Type 0
IsWhole s = s.len % (s.chunk * length s.legs) ≡ 0

-- how many blocks a leg of a whole extent has
abbrev pub leg_len : Stripe → ℕ
leg_len s = s.len / length s.legs

-- Leg i has the block at this address.
abbrev pub LegHas : Stripe → ℕ → ℕ → ℕ → Type 0
LegHas s i dev lba = (i < length s.legs) × ((leg s i).dev ≡ dev) × ((leg s i).at ≤ lba) × (lba < (leg s i).at + leg_len s)

-- No two legs share a block.
abbrev pub AreApart : Stripe → Type 0
AreApart s = (i j dev lba : ℕ) → LegHas s i dev lba → LegHas s j dev lba → i ≡ j

-- Virtual block v lies there.
abbrev pub LiesAt : Stripe → ℕ → ℕ → ℕ → Type 0
LiesAt s v dev lba = StripeHolds s v × (stripe_place s v ≡ (dev, lba))

-- The n blocks from v on are on one device at consecutive addresses.
abbrev pub StripeRuns : Stripe → ℕ → ℕ → Type 0
StripeRuns s v n = (k : ℕ) → k < n → stripe_place s (v + k) ≡ ((stripe_place s v).0, (stripe_place s v).1 + k)

-- Legs of n blocks share a block: they are of one device, and each begins before the other ends.
abbrev pub do_share : ℕ → Leg → Leg → Bool
do_share n a b = eqb a.dev b.dev && (nat_lt a.at (b.at + n) && nat_lt b.at (a.at + n))

-- two of these legs do
abbrev pub any_shared : ℕ → List Leg → Bool
any_shared n [] = false
any_shared n (a ∷ rest) = list_any (do_share n a) rest || any_shared n rest

abbrev pub is_apart : Stripe → Bool
is_apart s = not (any_shared (leg_len s) s.legs)

-- The end of each leg of a whole extent fits 64 bits.
abbrev pub EndsFit : Stripe → Type 0
EndsFit s = (i : ℕ) → i < length s.legs → (leg s i).at + leg_len s ≤ 2 ^ 64
