-- The bytes of a command, and which commands have some.
use Rattle.std.specs.Prelude.{◌≡◌, ℕ, ◌+◌, ◌*◌, ◌/◌, ◌%◌, ◌^◌, ◌<◌, Bool, true, ◌&&◌, eqb, leb, ltb, List, [], ◌∷◌, ◌++◌, take}
use Rattle.std.specs.Int.{w16, w32, w64, to_be_bytes}
use Rattle.cdb_codec.specs.declared.command.CdbFault.{CdbFault}
use Rattle.cdb_codec.specs.declared.command.CdbFault.TheVariants.{Opcode, Field, Length}
use Rattle.device_commands.specs.declared.op.Op.{Op}
use Rattle.device_commands.specs.declared.op.Size.{Size}
use Rattle.device_commands.specs.declared.op.Size.TheVariants.{Ten, Twelve, Sixteen, ThirtyTwo}
use Rattle.device_commands.specs.declared.op.Kind.{Kind}
use Rattle.device_commands.specs.declared.op.Kind.TheVariants.{Reads, Writes, Swaps, Verifies, Repeats, Asks}
use Rattle.device_commands.specs.declared.command.DeviceCommand.{DeviceCommand}
use Rattle.device_commands.specs.Ops.{code_of, count_of, kind_of, number, size_of}

-- DLD has its high bit beside the flags in commands of 16 bytes alone
abbrev pub high_dld : Size → ℕ → ℕ
high_dld Ten dld = 0
high_dld Twelve dld = 0
high_dld Sixteen dld = dld / 4
high_dld ThirtyTwo dld = 0

-- bits 4 to 0 beside the protect field: DPO, FUA, RARC, FUA_NV, DLD; of VERIFY and WRITE AND VERIFY DPO and BYTCHK; of WRITE SAME ANCHOR, UNMAP, NDOB; of READ CAPACITY the service action
abbrev pub low : Size → Kind → DeviceCommand → ℕ
low size Reads c = c.flags + high_dld size c.dld
low size Writes c = c.flags + high_dld size c.dld
low size Swaps c = c.flags
low size Verifies c = c.flags + c.bytchk * 2
low size Repeats c = c.flags / 256
low size Asks c = 16

-- how many values DLD has: it stands in READ and WRITE of 16 and of 32 bytes
abbrev pub dld_values : Size → ℕ
dld_values Ten = 1
dld_values Twelve = 1
dld_values Sixteen = 8
dld_values ThirtyTwo = 8

-- NDOB is a bit of WRITE SAME(16) and (32), not of (10)
abbrev pub ndob_values : Size → ℕ
ndob_values Ten = 1
ndob_values Twelve = 2
ndob_values Sixteen = 2
ndob_values ThirtyTwo = 2

-- DPO 10h, FUA 8h, RARC 4h and FUA_NV 2h are flags of READ; WRITE and COMPARE AND WRITE have no RARC; VERIFY and WRITE AND VERIFY have DPO alone;
-- WRITE SAME has ANCHOR 1000h, UNMAP 800h and NDOB 100h
abbrev pub fits_low : Size → Kind → DeviceCommand → Bool
fits_low size Reads c = eqb (c.flags % 2) 0 && (ltb c.flags 32 && (eqb c.bytchk 0 && ltb c.dld (dld_values size)))
fits_low size Writes c = eqb (c.flags % 2) 0 && (ltb c.flags 32 && (eqb ((c.flags / 4) % 2) 0 && (eqb c.bytchk 0 && ltb c.dld (dld_values size))))
fits_low size Swaps c = eqb (c.flags % 2) 0 && (ltb c.flags 32 && (eqb ((c.flags / 4) % 2) 0 && (eqb c.bytchk 0 && (eqb c.dld 0 && ltb c.n 256))))
fits_low size Verifies c = eqb (c.flags % 16) 0 && (ltb c.flags 32 && (ltb c.bytchk 4 && eqb c.dld 0))
fits_low size Repeats c = eqb (c.flags % 256) 0 && (ltb c.flags 8192 && (eqb ((c.flags / 512) % 4) 0 && (ltb ((c.flags / 256) % 2) (ndob_values size) && (eqb c.bytchk 0 && eqb c.dld 0))))
fits_low size Asks c = eqb c.flags 0 && (eqb c.bytchk 0 && (eqb c.dld 0 && (eqb c.protect 0 && (eqb c.lba 0 && eqb c.group 0))))

-- expected tags stand in commands of 32 bytes alone
abbrev pub has_no_tags : DeviceCommand → Bool
has_no_tags c = eqb c.rtag 0 && (eqb c.app 0 && eqb c.mask 0)

abbrev pub fits_size : Size → DeviceCommand → Bool
fits_size Ten c = ltb c.lba (2 ^ 32) && (ltb c.n (2 ^ 16) && has_no_tags c)
fits_size Twelve c = ltb c.lba (2 ^ 32) && has_no_tags c
fits_size Sixteen c = has_no_tags c
fits_size ThirtyTwo c = true

-- the protect field is 000b to 101b, the group number has 6 bits, and CONTROL is a byte
abbrev pub fits_all : DeviceCommand → Bool
fits_all c = leb c.protect 5 && (ltb c.group 64 && ltb c.control 256)

-- the form of this command can carry these numbers
abbrev pub fits : Size → Kind → DeviceCommand → Bool
fits size kind c = fits_all c && (fits_size size c && fits_low size kind c)

-- 10 bytes: operation code; protect field and bits; LBA in 2 to 5; group number; length in 7 and 8; control (SBC-3, 5.11)
abbrev pub ten : ℕ → ℕ → DeviceCommand → List ℕ
ten code first c = code ∷ first ∷ (to_be_bytes w32 c.lba ++ (c.group ∷ (to_be_bytes w16 c.n ++ (c.control ∷ []))))

-- 12 bytes: LBA in 2 to 5; length in 6 to 9; group number; control (SBC-3, 5.12)
abbrev pub twelve : ℕ → ℕ → DeviceCommand → List ℕ
twelve code first c = code ∷ first ∷ (to_be_bytes w32 c.lba ++ (to_be_bytes w32 c.n ++ (c.group ∷ c.control ∷ [])))

-- 16 bytes: LBA in 2 to 9; length in 10 to 13; the low bits of DLD in bits 7 and 6 over the group number; control (SBC-3, 5.13; SBC-4)
abbrev pub sixteen : ℕ → ℕ → DeviceCommand → List ℕ
sixteen code first c = code ∷ first ∷ (to_be_bytes w64 c.lba ++ (to_be_bytes w32 c.n ++ (((c.dld % 4) * 64 + c.group) ∷ c.control ∷ [])))

-- bytes 12 to 31 of 32: LBA; expected initial reference tag; expected application tag; its mask; length
abbrev pub tail : DeviceCommand → List ℕ
tail c = to_be_bytes w64 c.lba ++ (to_be_bytes w32 c.rtag ++ (to_be_bytes w16 c.app ++ (to_be_bytes w16 c.mask ++ to_be_bytes w32 c.n)))

-- 32 bytes: operation code 7Fh; control; group number in 6; additional length 18h; service action; protect field and bits in 10; DLD in 11 (SBC-3, 5.14; SBC-4)
abbrev pub thirty_two : ℕ → ℕ → DeviceCommand → List ℕ
thirty_two action first c = 0x7F ∷ c.control ∷ 0 ∷ 0 ∷ 0 ∷ 0 ∷ c.group ∷ 0x18 ∷ 0 ∷ action ∷ first ∷ c.dld ∷ tail c

abbrev pub laid : Size → ℕ → ℕ → DeviceCommand → List ℕ
laid Ten code first c = ten code first c
laid Twelve code first c = twelve code first c
laid Sixteen code first c = sixteen code first c
laid ThirtyTwo code first c = thirty_two code first c

-- the written form of a command
abbrev pub form : Op → DeviceCommand → List ℕ
form o c = laid (size_of o) (code_of o) (c.protect * 32 + low (size_of o) (kind_of o) c) c

-- each number has as many bits as its field in memory
pub record Bounds (c : DeviceCommand) : Type 0 where
  pub lba : c.lba < 2 ^ 64
  pub n : c.n < 2 ^ 32
  pub rtag : c.rtag < 2 ^ 32
  pub app : c.app < 2 ^ 16
  pub mask : c.mask < 2 ^ 16

-- Numbers say this command, which can carry them.
pub record Is (o : Op) (c : DeviceCommand) : Type 0 where
  pub bounds : Bounds c
  pub number : c.op ≡ number o
  pub fits : fits (size_of o) (kind_of o) c ≡ true

-- These are the bytes of the command, no more and no fewer.
abbrev pub Written : DeviceCommand → List ℕ → Type 0
Written c b = (o : Op) × Is o c × (b ≡ form o c)

-- bytes begin with those of the command, whatever stands behind them
abbrev pub Says : DeviceCommand → List ℕ → Type 0
Says c b = (o : Op) × Is o c × (take (count_of (size_of o)) b ≡ form o c)

-- why numbers have no bytes: no command has their operation code, or the command that has it can't carry them
abbrev pub Refused : DeviceCommand → CdbFault → Type 0
Refused c Opcode = (o : Op) → ¬ (c.op ≡ number o)
Refused c Field = (o : Op) × (c.op ≡ number o) × ¬ (fits (size_of o) (kind_of o) c ≡ true)
Refused c Length = ⊥
