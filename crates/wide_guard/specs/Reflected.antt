use Rattle.std.specs.Prelude.{ℕ, zero, suc, ◌+◌, ◌*◌, ◌/◌, ◌%◌, Bool, true, false, cond, not, eqb, List, [], ◌∷◌, ◌++◌, length, map, replicate}
use Rattle.pi_guard.specs.Guards.{add_front, bits_of, divide}

-- the low n bits of x, the lowest first
abbrev pub low_bits : ℕ → ℕ → List Bool
low_bits zero x = []
low_bits (suc n) x = eqb (x % 2) 1 ∷ low_bits n (x / 2)

-- the bits of these bytes as a reflected CRC takes them, the lowest bit of the first byte first
abbrev pub low_first : List ℕ → List Bool
low_first [] = []
low_first (x ∷ xs) = low_bits 8 x ++ low_first xs

-- the number that these bits spell, the lowest first
abbrev pub low_number : List Bool → ℕ
low_number [] = 0
low_number (b ∷ bs) = cond b 1 0 + low_number bs * 2

-- The CRC of this width whose polynomial has these coefficients, the highest first, below its leading 1. The message's bits are those of its
-- bytes, the lowest first. They are the coefficients of a polynomial, the highest first, which is taken times x ^ width; its first `width`
-- coefficients are inverted. The remainder on division by the polynomial, inverted, is spelled the lowest bit first.
unfoldable pub reflected : ℕ → ℕ → List ℕ → ℕ
reflected width poly bytes =
    low_number (map not (divide (bits_of width poly) (length (low_first bytes)) (add_front (replicate width true) (low_first bytes ++ replicate width false))))

-- CRC-32C, the polynomial of Castagnoli (RFC 3720, 12.1; NVM Command Set Specification, "32b Guard Protection Information")
unfoldable pub crc32c : List ℕ → ℕ
crc32c bytes = reflected 32 0x1EDC6F41 bytes

-- the CRC of 64 bits of NVMe (NVM Command Set Specification, "64b Guard Protection Information")
unfoldable pub crc64 : List ℕ → ℕ
crc64 bytes = reflected 64 0xAD93D23594C93659 bytes
