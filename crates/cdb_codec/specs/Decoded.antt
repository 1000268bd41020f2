use Rattle.std.specs.Prelude.{ℕ, ◌+◌, ◌/◌, ◌%◌, Bool, ◌&&◌, eqb, if◌then◌else◌, List, [], ◌∷◌, length, slice_index, Result, Ok, Err}
use Rattle.std.specs.Int.{w16, w32, w64, from_be_bytes}
use Rattle.std.specs.Prelude.{bytes_eq}
use Rattle.cdb_codec.specs.declared.command.Rw.{Rw}
use Rattle.cdb_codec.specs.declared.command.Cdb.{Cdb}
use Rattle.cdb_codec.specs.declared.command.Cdb.TheVariants.{Read10, Write10, Verify10, Read16, Write16, Verify16, Read32, Write32, ReadCapacity16}
use Rattle.cdb_codec.specs.declared.command.CdbFault.{CdbFault}
use Rattle.cdb_codec.specs.declared.command.CdbFault.TheVariants.{Opcode, Field, Length}
use Rattle.cdb_codec.specs.Forms.{form, is_protect}

-- the number in so many bytes from a place on
abbrev pub two_at : List ℕ → ℕ → ℕ
two_at b i = from_be_bytes w16 (slice_index b i ∷ slice_index b (i + 1) ∷ [])

abbrev pub four_at : List ℕ → ℕ → ℕ
four_at b i = from_be_bytes w32 (slice_index b i ∷ slice_index b (i + 1) ∷ slice_index b (i + 2) ∷ slice_index b (i + 3) ∷ [])

abbrev pub eight_at : List ℕ → ℕ → ℕ
eight_at b i = from_be_bytes w64 (slice_index b i ∷ slice_index b (i + 1) ∷ slice_index b (i + 2) ∷ slice_index b (i + 3) ∷ slice_index b (i + 4) ∷ slice_index b (i + 5) ∷ slice_index b (i + 6) ∷ slice_index b (i + 7) ∷ [])

-- the fields at their places in the forms of 10, 16 and 32 bytes
abbrev pub ten_at : List ℕ → Rw
ten_at b = record { protect = slice_index b 1 / 32; lba = four_at b 2; n = two_at b 7; rtag = 0; app = 0; mask = 0 }

abbrev pub sixteen_at : List ℕ → Rw
sixteen_at b = record { protect = slice_index b 1 / 32; lba = eight_at b 2; n = four_at b 10; rtag = 0; app = 0; mask = 0 }

abbrev pub thirty_two_at : List ℕ → Rw
thirty_two_at b = record { protect = slice_index b 10 / 32; lba = eight_at b 12; n = four_at b 28; rtag = four_at b 20; app = two_at b 24; mask = two_at b 26 }

-- the service action of operation code 7Fh stands in bytes 8 and 9
abbrev pub of_variable : List ℕ → Result Cdb CdbFault
of_variable b =
    if eqb (slice_index b 8) 0x00 && eqb (slice_index b 9) 0x09 then Ok (Read32 (thirty_two_at b))
    else (if eqb (slice_index b 8) 0x00 && eqb (slice_index b 9) 0x0B then Ok (Write32 (thirty_two_at b))
    else Err Opcode)

-- that of 9Eh in bits 4 to 0 of byte 1
abbrev pub of_service : List ℕ → Result Cdb CdbFault
of_service b = if eqb (slice_index b 1 % 32) 0x10 then Ok (ReadCapacity16 (four_at b 10)) else Err Opcode

-- of bytes that are so many
abbrev pub of_size : ℕ → List ℕ → Result Cdb CdbFault → Result Cdb CdbFault
of_size size b told = if eqb (length b) size then told else Err Length

-- the command whose fields stand at their places, whatever the bits beside the fields are; else that the operation code isn't served, the number of bytes is another, or the service action isn't served
abbrev pub told_by : ℕ → List ℕ → Result Cdb CdbFault
told_by op b =
    if eqb op 0x28 then of_size 10 b (Ok (Read10 (ten_at b)))
    else (if eqb op 0x2A then of_size 10 b (Ok (Write10 (ten_at b)))
    else (if eqb op 0x2F then of_size 10 b (Ok (Verify10 (ten_at b)))
    else (if eqb op 0x88 then of_size 16 b (Ok (Read16 (sixteen_at b)))
    else (if eqb op 0x8A then of_size 16 b (Ok (Write16 (sixteen_at b)))
    else (if eqb op 0x8F then of_size 16 b (Ok (Verify16 (sixteen_at b)))
    else (if eqb op 0x7F then of_size 32 b (of_variable b)
    else (if eqb op 0x9E then of_size 16 b (of_service b)
    else Err Opcode)))))))

abbrev pub told : List ℕ → Result Cdb CdbFault
told [] = Err Length
told (op ∷ rest) = told_by op (op ∷ rest)

-- RDPROTECT, WRPROTECT or VRPROTECT, and 0 where the command has none
abbrev pub protect_of : Cdb → ℕ
protect_of (Read10 c) = c.protect
protect_of (Write10 c) = c.protect
protect_of (Verify10 c) = c.protect
protect_of (Read16 c) = c.protect
protect_of (Write16 c) = c.protect
protect_of (Verify16 c) = c.protect
protect_of (Read32 c) = c.protect
protect_of (Write32 c) = c.protect
protect_of (ReadCapacity16 len) = 0

-- a command that can be written is, in these bytes
abbrev pub is_written : Cdb → List ℕ → Bool
is_written c b = is_protect (protect_of c) && bytes_eq (form c) b

abbrev pub if_written : Result Cdb CdbFault → List ℕ → Result Cdb CdbFault
if_written (Ok c) b = if is_written c b then Ok c else Err Field
if_written (Err e) b = Err e

-- what bytes are read as: the command that is written as these, else the first fault: that there are no bytes, the operation code, the number of bytes,
-- the service action, and last a field with a value that isn't served or a bit outside the fields
abbrev pub decoded : List ℕ → Result Cdb CdbFault
decoded b = if_written (told b) b
