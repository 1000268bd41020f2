use Rattle.std.specs.Prelude.{ℕ, ◌≡◌, ◌+◌, ◌-◌, ◌*◌, ◌/◌, ◌%◌, ◌^◌, ◌<◌, ◌≤◌, All, Bool, not, ◌||◌, eqb, nat_lt, if◌then◌else◌, List, [], ◌∷◌, length, map, Option, Some, None}
use Rattle.std.specs.List.{list_any}
use Rattle.linear_volume.specs.declared.Linear.{Linear}
use Rattle.stripe_volume.specs.declared.legs.Leg.{Leg}
use Rattle.volume_table.specs.declared.entry.Entry.{Entry}
use Rattle.volume_table.specs.declared.entry.Entry.TheVariants.{Stripe}
use Rattle.volume_table.specs.Entries.{IsInRange, entry_len, entry_start}
use Rattle.volume_table.specs.Places.{place_in, volume_len}
use Rattle.volume_tree.specs.declared.TreeFault.{TreeFault}
use Rattle.volume_tree.specs.declared.TreeFault.TheVariants.{BadLength, Unaligned, TooMany}
use Rattle.volume_tree.specs.Tracks.{FollowsFrom, ends, track, track_len, track_place}

-- Where virtual block v of a stripe over inner volumes lies: its chunk goes to the inner volumes in turn, and as many blocks into that one's next chunk as into its own.
abbrev pub tree_place : (start chunk : ℕ) → List (List Linear) → ℕ → ℕ × ℕ
tree_place start chunk tracks v =
    track_place (track tracks ((v - start) / chunk % length tracks)) ((v - start) / chunk / length tracks * chunk + (v - start) % chunk)

-- the extent isn't whole chunks
abbrev pub is_ragged : ℕ → Linear → Bool
is_ragged chunk e = not (eqb (e.len % chunk) 0)

-- the inner volume hasn't this length
abbrev pub is_other_length : ℕ → List Linear → Bool
is_other_length len t = not (eqb (track_len t) len)

-- The length isn't a multiple of a chunk on each inner volume, or one of these has another length than its share.
abbrev pub has_bad_length : (len chunk : ℕ) → List (List Linear) → Bool
has_bad_length len chunk tracks = not (eqb (len % (chunk * length tracks)) 0) || list_any (is_other_length (len / length tracks)) tracks

abbrev pub is_unaligned : ℕ → List (List Linear) → Bool
is_unaligned chunk tracks = list_any (λ t. list_any (is_ragged chunk) t) tracks

-- the first refusal
abbrev pub tree_fault : (len chunk : ℕ) → List (List Linear) → Option TreeFault
tree_fault len chunk tracks =
    if has_bad_length len chunk tracks then Some BadLength
    else (if is_unaligned chunk tracks then Some Unaligned
    else (if nat_lt 16 (length (ends tracks)) then Some TooMany else None))

-- a leg from block x of an inner volume on
abbrev pub leg_from : ℕ → List Linear → Leg
leg_from x t = record { dev = (track_place t x).0; at = (track_place t x).1 }

-- the stripe over the blocks x to y of each inner volume
abbrev pub stripe_between : (start chunk : ℕ) → List (List Linear) → ℕ → ℕ → Entry
stripe_between start chunk tracks x y = Stripe (record {
  start = start + x * length tracks;
  len = (y - x) * length tracks;
  chunk = chunk;
  legs = map (leg_from x) tracks;
})

-- a stripe for each stretch from x on between two neighbours
abbrev pub stripes : (start chunk : ℕ) → List (List Linear) → ℕ → List ℕ → List Entry
stripes start chunk tracks x [] = []
stripes start chunk tracks x (y ∷ ys) = stripe_between start chunk tracks x y ∷ stripes start chunk tracks y ys

-- the entries that say the same without inner volumes
abbrev pub expanded : (start chunk : ℕ) → List (List Linear) → List Entry
expanded start chunk tracks = stripes start chunk tracks 0 (ends tracks)

-- Each inner volume begins with block 0.
abbrev pub AreTracks : List (List Linear) → Type 0
AreTracks [] = Unit {0}
AreTracks (t ∷ rest) = FollowsFrom 0 t × AreTracks rest

-- The stretches from x on are ascending, and their blocks' numbers fit 64 bits where n inner volumes take them from start on.
abbrev pub DoFit : (start n x : ℕ) → List ℕ → Type 0
DoFit start n x [] = Unit {0}
DoFit start n x (y ∷ ys) = (x < y) × (start + y * n < 2 ^ 64) × DoFit start n y ys

-- Each entry begins where the one before ends, the first at this block.
abbrev pub EntriesFollow : ℕ → List Entry → Type 0
EntriesFollow start [] = Unit {0}
EntriesFollow start (e ∷ rest) = (entry_start e ≡ start) × EntriesFollow (start + entry_len e) rest

-- These entries lie as the tree says: each block where the tree has it. They begin at block `start`, one follows on the other, they have `len` blocks and are at most 16, and each is in the range of an entry.
pub record LieAsTree (start len chunk : ℕ) (tracks : List (List Linear)) (list : List Entry) : Type 0 where
  pub places : (v : ℕ) → start ≤ v → v < start + len → place_in list v ≡ tree_place start chunk tracks v
  pub follow : EntriesFollow start list
  pub blocks : volume_len list ≡ len
  pub ranges : All IsInRange list
  pub few : length list ≤ 16
