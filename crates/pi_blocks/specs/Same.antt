-- Sense data that are the same wherever a reader of what devices send looks.
use Rattle.std.specs.Prelude.{◌≡◌, ℕ, ◌+◌, ◌%◌, Bool, List, take, drop, length, slice_index}
use Rattle.sense_codes.specs.declared.Sense.{Sense}
use Rattle.sense_codes.specs.declared.decode.SenseFault.{SenseFault}
use Rattle.pi_blocks.specs.Seen.{Tells, TellsNone, place_of}

-- fixed format: as many bytes, and the same response code with VALID, key, INFORMATION, additional length, code and qualifier
pub record SameFixed (a b : List ℕ) : Type 0 where
  pub long : length a ≡ length b
  pub code : slice_index a 0 ≡ slice_index b 0
  pub key : slice_index a 2 % 16 ≡ slice_index b 2 % 16
  pub info : take 4 (drop 3 a) ≡ take 4 (drop 3 b)
  pub more : slice_index a 7 ≡ slice_index b 7
  pub asc : slice_index a 12 ≡ slice_index b 12
  pub ascq : slice_index a 13 ≡ slice_index b 13

-- an information descriptor's VALID and INFORMATION are the same
pub record SameInformation (a b : List ℕ) (place : ℕ) : Type 0 where
  pub valid : slice_index a (place + 2) ≡ slice_index b (place + 2)
  pub info : take 8 (drop (place + 4) a) ≡ take 8 (drop (place + 4) b)

-- descriptor format: the same of its first bytes, each descriptor's type and additional length, and what information descriptors hold
pub record SameDescribed (a b : List ℕ) : Type 0 where
  pub long : length a ≡ length b
  pub code : slice_index a 0 ≡ slice_index b 0
  pub key : slice_index a 1 % 16 ≡ slice_index b 1 % 16
  pub asc : slice_index a 2 ≡ slice_index b 2
  pub ascq : slice_index a 3 ≡ slice_index b 3
  pub more : slice_index a 7 ≡ slice_index b 7
  pub kinds : (k : ℕ) → slice_index a (place_of a k) ≡ slice_index b (place_of a k)
  pub lengths : (k : ℕ) → slice_index a (place_of a k + 1) ≡ slice_index b (place_of a k + 1)
  pub informing : (k : ℕ) → slice_index a (place_of a k) ≡ 0 → slice_index a (place_of a k + 1) ≡ 10 → SameInformation a b (place_of a k)

-- what the one tells, the other does, and why it tells nothing too
pub record TellSame (a b : List ℕ) : Type 0 where
  pub sense : (s : Sense) (late : Bool) → Tells a s late → Tells b s late
  pub none : (e : SenseFault) → TellsNone a e → TellsNone b e
