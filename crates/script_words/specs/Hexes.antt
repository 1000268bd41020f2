use Rattle.std.specs.Prelude.{ℕ, ◌*◌, nat_le, ◌&&◌, if◌then◌else◌, List, [], ◌∷◌, length, Option, Some, None, Result, Ok, Err}
use Rattle.std.specs.Int.{Width, from_be_bytes, w8, w16, w32}
use Rattle.hex.specs.Hex.{decode_of, decode_sized}
use Rattle.hex.specs.declared.error.FromHexError.{FromHexError}

abbrev pub value_of : Width → Result (List ℕ) FromHexError → Option ℕ
value_of w (Ok bytes) = Some (from_be_bytes w bytes)
value_of w (Err e) = None

-- a byte, a tag, a long tag: exactly two, four, eight hexadecimal digits in either case, the high ones first
abbrev pub byte_in : List ℕ → Option ℕ
byte_in word = value_of w8 (decode_sized word 1)

abbrev pub tag_in : List ℕ → Option ℕ
tag_in word = value_of w16 (decode_sized word 2)

abbrev pub long_tag_in : List ℕ → Option ℕ
long_tag_in word = value_of w32 (decode_sized word 4)

abbrev pub bytes_by : Result (List ℕ) FromHexError → Option (List ℕ)
bytes_by (Ok bytes) = Some bytes
bytes_by (Err e) = None

-- 1 to `most` bytes, each of two hexadecimal digits
abbrev pub hex_in : ℕ → List ℕ → Option (List ℕ)
hex_in most word = if nat_le 1 (length word) && nat_le (length word) (2 * most) then bytes_by (decode_of word) else None
