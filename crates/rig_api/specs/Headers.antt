use Rattle.std.specs.Prelude.{ℕ, zero, suc, ◌+◌, ◌-◌, ◌*◌, ◌^◌, min, Bool, true, ◌&&◌, eqb, leb, if◌then◌else◌, List, [], ◌∷◌, ◌++◌, length, drop, map, replicate, codes, slice_index, Option, Some, None}
use Rattle.std.specs.Int.{w16, w64, to_be_bytes}
use Rattle.std.specs.List.{list_all}
use Rattle.std.specs.Str.{bytes_eq}
use Rattle.pi_tuple.specs.declared.checks.PiType.{PiType}
use Rattle.pi_tuple.specs.declared.checks.PiType.TheVariants.{Zero, One, Two, Three}
use Rattle.cdb_codec.specs.Decoded.{two_at, eight_at}
use Rattle.rig_api.specs.Frames.{stored_size, joined}
use Rattle.rig_api.specs.declared.units.Version.{Version}
use Rattle.rig_api.specs.declared.units.Version.TheVariants.{First, Second}
use Rattle.rig_api.specs.declared.units.UnitSpec.{UnitSpec}
use Rattle.rig_api.specs.declared.TheConstants.{MOST_LARGE, MOST_SMALL}

-- The header of an image, of either version, is what one list of units is written as. A header is right where it is what was read from it, written again.

-- the text at the front
abbrev pub magic_of : Version → List ℕ
magic_of First = codes "DIXIMG01"
magic_of Second = codes "DIXIMG02"

abbrev pub number_of : PiType → ℕ
number_of Zero = 0
number_of One = 1
number_of Two = 2
number_of Three = 3

-- the type of this number; any greater one is written as another byte
abbrev pub type_of : ℕ → PiType
type_of x = if eqb x 0 then Zero else (if eqb x 1 then One else (if eqb x 2 then Two else Three))

-- 2 to the power of the exponent is the block size: 9 and 12 are served
abbrev pub exponent_of : (size : ℕ) → ℕ
exponent_of size = if eqb size 512 then 9 else 12

abbrev pub size_of : (exponent : ℕ) → ℕ
size_of exponent = if eqb exponent 9 then 512 else 4096

-- a unit in version 1: its type, seven zeros, and its number of blocks in eight bytes
abbrev pub entry_1 : UnitSpec → List ℕ
entry_1 u = number_of u.ty ∷ 0 ∷ 0 ∷ 0 ∷ 0 ∷ 0 ∷ 0 ∷ 0 ∷ to_be_bytes w64 u.blocks

-- a unit in version 2: its type, its size exponent, six zeros, then in eight bytes each its number of blocks, its first address and zeros
abbrev pub entry_2 : UnitSpec → List ℕ
entry_2 u =
    number_of u.ty ∷ exponent_of u.size ∷ 0 ∷ 0 ∷ 0 ∷ 0 ∷ 0 ∷ 0
    ∷ (to_be_bytes w64 u.blocks ++ (to_be_bytes w64 u.first ++ (0 ∷ 0 ∷ 0 ∷ 0 ∷ 0 ∷ 0 ∷ 0 ∷ 0 ∷ [])))

abbrev pub entry_of : Version → UnitSpec → List ℕ
entry_of First u = entry_1 u
entry_of Second u = entry_2 u

-- zeros behind the bytes up to this length
abbrev pub padded : ℕ → List ℕ → List ℕ
padded n bytes = bytes ++ replicate (n - length bytes) 0

-- the text, the number of units in two bytes, six zeros, the units, and zeros up to byte 511
unfoldable pub header : Version → List UnitSpec → List ℕ
header v us = padded 512 (magic_of v ++ (to_be_bytes w16 (length us) ++ (0 ∷ 0 ∷ 0 ∷ 0 ∷ 0 ∷ 0 ∷ joined (map (entry_of v) us))))

abbrev pub spec_1 : List ℕ → UnitSpec
spec_1 b = record { ty = type_of (slice_index b 0); blocks = eight_at b 8; size = 512; first = 0 }

abbrev pub spec_2 : List ℕ → UnitSpec
spec_2 b = record { ty = type_of (slice_index b 0); blocks = eight_at b 8; size = size_of (slice_index b 1); first = eight_at b 16 }

abbrev pub spec_of : Version → List ℕ → UnitSpec
spec_of First b = spec_1 b
spec_of Second b = spec_2 b

abbrev pub entry_size : Version → ℕ
entry_size First = 16
entry_size Second = 32

-- so many units, one entry after another
abbrev pub specs_from : Version → ℕ → List ℕ → List UnitSpec
specs_from v zero b = []
specs_from v (suc n) b = spec_of v b ∷ specs_from v n (drop (entry_size v) b)

-- the units that a header tells: as many as it says, and at most 8
unfoldable pub specs_in : Version → List ℕ → List UnitSpec
specs_in v b = specs_from v (min (two_at b 8) 8) (drop 16 b)

-- the most blocks of a unit of this block size: no unit has another size than these two
abbrev pub most_blocks : (size : ℕ) → ℕ
most_blocks size = if eqb size 512 then MOST_SMALL else (if eqb size 4096 then MOST_LARGE else 0)

-- a unit that an image may have
abbrev pub is_spec : UnitSpec → Bool
is_spec u = leb 1 u.blocks && (leb u.blocks (most_blocks u.size) && leb (u.first + u.blocks) (2 ^ 63))

-- the units of an image: 1 to 8
abbrev pub is_layout : List UnitSpec → Bool
is_layout us = leb 1 (length us) && (leb (length us) 8 && list_all is_spec us)

-- the version that these 8 bytes name
abbrev pub version_of : List ℕ → Option Version
version_of text = if bytes_eq text (magic_of First) then Some First else (if bytes_eq text (magic_of Second) then Some Second else None)

-- the 512 bytes are a header of this version
unfoldable pub is_header : Version → List ℕ → Bool
is_header v b = is_layout (specs_in v b) && bytes_eq (header v (specs_in v b)) b

-- the bytes of a unit's blocks in the image
abbrev pub bytes_of : UnitSpec → ℕ
bytes_of u = u.blocks * stored_size u.ty u.size

abbrev pub all_bytes : List UnitSpec → ℕ
all_bytes [] = 0
all_bytes (u ∷ us) = bytes_of u + all_bytes us

-- the length of the image of these units
abbrev pub image_size : List UnitSpec → ℕ
image_size us = 512 + all_bytes us

-- version 1 tells no block size and no first address
abbrev pub is_first : List UnitSpec → Bool
is_first [] = true
is_first (u ∷ us) = eqb u.size 512 && (eqb u.first 0 && is_first us)

-- units are written in version 1 where it can tell them
abbrev pub version_for : List UnitSpec → Version
version_for us = if is_first us then First else Second
