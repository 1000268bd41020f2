-- Sense data as devices send them (SPC-4, 4.5): what they tell, whatever stands at other places.
use Rattle.std.specs.Prelude.{◌≡◌, ℕ, zero, suc, ◌+◌, ◌<◌, ◌≤◌, ◌%◌, min, Bool, true, false, ◌||◌, eqb, leb, ltb, if◌then◌else◌, List, [], ◌∷◌, take, drop, length, slice_index, Option, Some, None}
use Rattle.std.specs.Int.{w32, w64, from_be_bytes}
use Rattle.sense_codes.specs.declared.Sense.{Sense}
use Rattle.sense_codes.specs.declared.decode.SenseFault.{SenseFault}
use Rattle.sense_codes.specs.declared.decode.SenseFault.TheVariants.{Short, Form}

-- the response code, which is byte 0 without its bit VALID
abbrev pub code_in : List ℕ → ℕ
code_in b = slice_index b 0 % 128

-- 70h and 71h are fixed format, 72h and 73h descriptor format; 71h and 73h tell of an earlier command (SPC-4, table 28)
abbrev pub is_fixed : ℕ → Bool
is_fixed code = eqb code 0x70 || eqb code 0x71

abbrev pub is_described : ℕ → Bool
is_described code = eqb code 0x72 || eqb code 0x73

abbrev pub is_deferred : ℕ → Bool
is_deferred code = eqb code 0x71 || eqb code 0x73

-- where the sense ends: as its additional length in byte 7 says, or where there are no more bytes
abbrev pub end_of : List ℕ → ℕ
end_of b = min (length b) (8 + slice_index b 7)

-- there are no bytes, or too few for the qualifier of this format
abbrev pub is_cut_by : (fixed described : Bool) → List ℕ → Bool
is_cut_by fixed described b = if fixed then ltb (length b) 8 || ltb (end_of b) 14 else (if described then ltb (length b) 8 else false)

abbrev pub is_cut_off : List ℕ → Bool
is_cut_off [] = true
is_cut_off (x ∷ rest) = is_cut_by (is_fixed (code_in (x ∷ rest))) (is_described (code_in (x ∷ rest))) (x ∷ rest)

-- where descriptor k begins, counted from 0: the first in byte 8, and each behind the one before it
abbrev pub place_of : List ℕ → ℕ → ℕ
place_of b zero = 8
place_of b (suc k) = place_of b k + (2 + slice_index b (place_of b k + 1))

-- Descriptor k is a whole information descriptor, and valid (SPC-4, 4.5.2.2).
pub record Informs (b : List ℕ) (k : ℕ) : Type 0 where
  pub inside : place_of b k + 12 ≤ end_of b
  pub kind : slice_index b (place_of b k) ≡ 0
  pub long : slice_index b (place_of b k + 1) ≡ 10
  pub valid : 128 ≤ slice_index b (place_of b k + 2)

-- the information of the first one, or none
abbrev pub Information : List ℕ → Option ℕ → Type 0
Information b None = (k : ℕ) → ¬ Informs b k
Information b (Some info) = (k : ℕ) × Informs b k × ((j : ℕ) → j < k → ¬ Informs b j) × (info ≡ from_be_bytes w64 (take 8 (drop (place_of b k + 4) b)))

-- The sense of these bytes in fixed format: its key, code, qualifier, and its information where byte 0 says that it is valid.
pub record SaysFixed (b : List ℕ) (s : Sense) : Type 0 where
  pub key : s.key ≡ slice_index b 2 % 16
  pub asc : s.asc ≡ slice_index b 12
  pub ascq : s.ascq ≡ slice_index b 13
  pub info : s.info ≡ (if leb 128 (slice_index b 0) then Some (from_be_bytes w32 (take 4 (drop 3 b))) else None)

-- and in descriptor format
pub record SaysDescribed (b : List ℕ) (s : Sense) : Type 0 where
  pub key : s.key ≡ slice_index b 1 % 16
  pub asc : s.asc ≡ slice_index b 2
  pub ascq : s.ascq ≡ slice_index b 3
  pub info : Information b s.info

-- in either
abbrev pub SaysBy : (fixed described : Bool) → List ℕ → Sense → Type 0
SaysBy true described b s = SaysFixed b s
SaysBy false true b s = SaysDescribed b s
SaysBy false false b s = ⊥

-- These bytes, which aren't cut off, tell this sense, of an earlier command or of this one.
pub record Tells (b : List ℕ) (s : Sense) (deferred : Bool) : Type 0 where
  pub whole : is_cut_off b ≡ false
  pub says : SaysBy (is_fixed (code_in b)) (is_described (code_in b)) b s
  pub deferred_is : deferred ≡ is_deferred (code_in b)

-- why bytes tell none: they are cut off, or no sense has this response code
abbrev pub TellsNone : List ℕ → SenseFault → Type 0
TellsNone b Short = is_cut_off b ≡ true
TellsNone b Form = (is_cut_off b ≡ false) × (is_fixed (code_in b) ≡ false) × (is_described (code_in b) ≡ false)
