use Rattle.std.specs.Prelude.{ℕ, ◌≡◌, ◌*◌, ◌^◌, ◌<◌, Bool, true, ◌||◌, eqb, List, [], ◌∷◌, ◌++◌}
use Rattle.std.specs.Int.{w16, w32, w64, to_be_bytes}
use Rattle.cdb_codec.specs.declared.command.Rw.{Rw}
use Rattle.cdb_codec.specs.declared.command.Cdb.{Cdb}
use Rattle.cdb_codec.specs.declared.command.Cdb.TheVariants.{Read10, Write10, Verify10, Read16, Write16, Verify16, Read32, Write32, ReadCapacity16}

-- the values of RDPROTECT, WRPROTECT and VRPROTECT that are served: 000b, 001b, 011b and 100b
abbrev pub is_protect : ℕ → Bool
is_protect p = eqb p 0 || (eqb p 1 || (eqb p 3 || eqb p 4))

-- READ(10), WRITE(10), VERIFY(10): operation code; protect in bits 7 to 5; LBA in 2 to 5; group number; length in 7 and 8; control (SBC-3, 5.11)
abbrev pub ten : ℕ → Rw → List ℕ
ten op c = op ∷ (c.protect * 32) ∷ (to_be_bytes w32 c.lba ++ (0 ∷ (to_be_bytes w16 c.n ++ (0 ∷ []))))

-- READ(16), WRITE(16), VERIFY(16): operation code; protect in bits 7 to 5; LBA in 2 to 9; length in 10 to 13; group number; control (SBC-3, 5.13)
abbrev pub sixteen : ℕ → Rw → List ℕ
sixteen op c = op ∷ (c.protect * 32) ∷ (to_be_bytes w64 c.lba ++ (to_be_bytes w32 c.n ++ (0 ∷ 0 ∷ [])))

-- bytes 0 to 9 of READ(32) and WRITE(32): operation code 7Fh; control; five bytes of 0, the group number last; additional CDB length 18h; service action
abbrev pub head : ℕ → List ℕ
head action = 0x7F ∷ 0 ∷ 0 ∷ 0 ∷ 0 ∷ 0 ∷ 0 ∷ 0x18 ∷ 0 ∷ action ∷ []

-- bytes 12 to 31: LBA in 12 to 19; expected initial reference tag in 20 to 23; expected application tag in 24 and 25; its mask in 26 and 27; length in 28 to 31
abbrev pub tail : Rw → List ℕ
tail c = to_be_bytes w64 c.lba ++ (to_be_bytes w32 c.rtag ++ (to_be_bytes w16 c.app ++ (to_be_bytes w16 c.mask ++ to_be_bytes w32 c.n)))

-- READ(32), WRITE(32): between these, protect in bits 7 to 5 of byte 10, and byte 11 (SBC-3, 5.14)
abbrev pub thirty_two : ℕ → Rw → List ℕ
thirty_two action c = head action ++ ((c.protect * 32) ∷ 0 ∷ tail c)

-- READ CAPACITY(16): operation code; service action 10h; eight bytes of 0; allocation length in 10 to 13; a byte of 0; control (SBC-3, 5.16)
abbrev pub capacity : ℕ → List ℕ
capacity len = 0x9E ∷ 0x10 ∷ 0 ∷ 0 ∷ 0 ∷ 0 ∷ 0 ∷ 0 ∷ 0 ∷ 0 ∷ (to_be_bytes w32 len ++ (0 ∷ 0 ∷ []))

-- the written form of a command
abbrev pub form : Cdb → List ℕ
form (Read10 c) = ten 0x28 c
form (Write10 c) = ten 0x2A c
form (Verify10 c) = ten 0x2F c
form (Read16 c) = sixteen 0x88 c
form (Write16 c) = sixteen 0x8A c
form (Verify16 c) = sixteen 0x8F c
form (Read32 c) = thirty_two 0x09 c
form (Write32 c) = thirty_two 0x0B c
form (ReadCapacity16 len) = capacity len

-- what a form can carry: a served protect field, an LBA and a length within the form's fields, and no expected tags
pub record FitsTen (c : Rw) : Type 0 where
  pub protect : is_protect c.protect ≡ true
  pub lba : c.lba < 2 ^ 32
  pub n : c.n < 2 ^ 16
  pub rtag : c.rtag ≡ 0
  pub app : c.app ≡ 0
  pub mask : c.mask ≡ 0

pub record FitsSixteen (c : Rw) : Type 0 where
  pub protect : is_protect c.protect ≡ true
  pub lba : c.lba < 2 ^ 64
  pub n : c.n < 2 ^ 32
  pub rtag : c.rtag ≡ 0
  pub app : c.app ≡ 0
  pub mask : c.mask ≡ 0

-- with expected tags, which the form of 32 bytes alone has
pub record FitsThirtyTwo (c : Rw) : Type 0 where
  pub protect : is_protect c.protect ≡ true
  pub lba : c.lba < 2 ^ 64
  pub n : c.n < 2 ^ 32
  pub rtag : c.rtag < 2 ^ 32
  pub app : c.app < 2 ^ 16
  pub mask : c.mask < 2 ^ 16

-- a command that its form can carry
abbrev pub Fits : Cdb → Type 0
Fits (Read10 c) = FitsTen c
Fits (Write10 c) = FitsTen c
Fits (Verify10 c) = FitsTen c
Fits (Read16 c) = FitsSixteen c
Fits (Write16 c) = FitsSixteen c
Fits (Verify16 c) = FitsSixteen c
Fits (Read32 c) = FitsThirtyTwo c
Fits (Write32 c) = FitsThirtyTwo c
Fits (ReadCapacity16 len) = len < 2 ^ 32
