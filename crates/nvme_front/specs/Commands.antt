use Rattle.std.specs.Prelude.{ℕ, ◌+◌, ◌/◌, ◌%◌, ◌^◌, ◌<◌, ◌≤◌, Bool, not, ◌||◌, eqb, List, [], ◌∷◌, slice_index}
use Rattle.std.specs.Int.{w16, w32, w64, from_le_bytes}
use Rattle.nvme_front.specs.declared.command.NvmCommand.{NvmCommand}

-- The fields of an NVM read or write command of 64 bytes.

-- the number in so many bytes from a place on, the least significant byte first
abbrev pub two_at : List ℕ → ℕ → ℕ
two_at b i = from_le_bytes w16 (slice_index b i ∷ slice_index b (i + 1) ∷ [])

abbrev pub four_at : List ℕ → ℕ → ℕ
four_at b i = from_le_bytes w32 (slice_index b i ∷ slice_index b (i + 1) ∷ slice_index b (i + 2) ∷ slice_index b (i + 3) ∷ [])

abbrev pub eight_at : List ℕ → ℕ → ℕ
eight_at b i = from_le_bytes w64 (slice_index b i ∷ slice_index b (i + 1) ∷ slice_index b (i + 2) ∷ slice_index b (i + 3) ∷ slice_index b (i + 4) ∷ slice_index b (i + 5) ∷ slice_index b (i + 6) ∷ slice_index b (i + 7) ∷ [])

-- the command of these bytes: dword 12 stands in bytes 48 to 51, so its bits 31 to 24 are byte 51
abbrev pub command_in : List ℕ → NvmCommand
command_in b = record {
  opcode = slice_index b 0;
  reserved = not (eqb (slice_index b 1 % 4) 0) || (not (eqb (slice_index b 50) 0) || not (eqb (slice_index b 51 % 4) 0));
  nsid = four_at b 4;
  first = eight_at b 40;
  count = two_at b 48 + 1;
  pract = eqb (slice_index b 51 / 32 % 2) 1;
  prchk = slice_index b 51 / 4 % 8;
  rtag = four_at b 56;
  app = two_at b 60;
  mask = two_at b 62;
}

abbrev pub is_write : NvmCommand → Bool
is_write c = eqb c.opcode 1

abbrev pub is_read : NvmCommand → Bool
is_read c = eqb c.opcode 2

-- The command is of 1 to 1024 blocks, whose addresses fit 64 bits.
pub record HasSpan (c : NvmCommand) : Type 0 where
  pub some : 1 ≤ c.count
  pub few : c.count ≤ 1024
  pub end : c.first + c.count < 2 ^ 64
