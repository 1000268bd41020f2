use Rattle.std.specs.Prelude.{◌≡◌, ℕ, ◌^◌, Bool, true, ◌&&◌, ◌||◌, eqb, ltb, if◌then◌else◌, List, length, slice_index, Result, Ok, Err}
use Rattle.cdb_codec.specs.Forms.{Fits, form, is_protect}
use Rattle.cdb_codec.specs.declared.command.Cdb.{Cdb}
use Rattle.cdb_codec.specs.declared.command.Cdb.TheVariants.{Read10, Write10, Verify10, Read16, Write16, Verify16, Read32, Write32, ReadCapacity16}
use Rattle.cdb_codec.specs.declared.command.CdbFault.{CdbFault}
use Rattle.cdb_codec.specs.declared.command.CdbFault.TheVariants.{Opcode, Field}
use Rattle.cdb_codec.specs.declared.command.Rw.{Rw}
use Rattle.pi_blocks.specs.Marks.{marked, marks_fit, places_for, without_marks}
use Rattle.pi_blocks.specs.declared.commands.CdbFields.{CdbFields}
use Rattle.pi_blocks.specs.declared.marks.Places.{Places}

-- the numbers of a command, with flags, a group number and a control byte
abbrev pub rw_fields : ℕ → Rw → ℕ → ℕ → ℕ → CdbFields
rw_fields op c flags group control = record {
  lba = c.lba;
  op = op;
  n = c.n;
  rtag = c.rtag;
  app = c.app;
  mask = c.mask;
  protect = c.protect;
  flags = flags;
  group = group;
  control = control;
}

abbrev pub cdb_fields : Cdb → ℕ → ℕ → ℕ → CdbFields
cdb_fields (Read10 c) flags group control = rw_fields 0x28 c flags group control
cdb_fields (Write10 c) flags group control = rw_fields 0x2A c flags group control
cdb_fields (Verify10 c) flags group control = rw_fields 0x2F c flags group control
cdb_fields (Read16 c) flags group control = rw_fields 0x88 c flags group control
cdb_fields (Write16 c) flags group control = rw_fields 0x8A c flags group control
cdb_fields (Verify16 c) flags group control = rw_fields 0x8F c flags group control
cdb_fields (Read32 c) flags group control = rw_fields 0x7F09 c flags group control
cdb_fields (Write32 c) flags group control = rw_fields 0x7F0B c flags group control
cdb_fields (ReadCapacity16 len) flags group control = record {
  lba = 0;
  op = 0x9E10;
  n = len;
  rtag = 0;
  app = 0;
  mask = 0;
  protect = 0;
  flags = flags;
  group = group;
  control = control;
}

-- the command of numbers, or that the operation code is none or that a field doesn't fit its form
abbrev pub rw_of : CdbFields → Rw
rw_of f = record { protect = f.protect; lba = f.lba; n = f.n; rtag = f.rtag; app = f.app; mask = f.mask }

abbrev pub has_no_tags : CdbFields → Bool
has_no_tags f = eqb f.rtag 0 && (eqb f.app 0 && eqb f.mask 0)

abbrev pub if_fits : Bool → Cdb → Result Cdb CdbFault
if_fits fits c = if fits then Ok c else Err Field

abbrev pub fits_ten : CdbFields → Bool
fits_ten f = is_protect f.protect && (ltb f.lba (2 ^ 32) && (ltb f.n (2 ^ 16) && has_no_tags f))

abbrev pub fits_sixteen : CdbFields → Bool
fits_sixteen f = is_protect f.protect && has_no_tags f

abbrev pub fits_capacity : CdbFields → Bool
fits_capacity f = eqb f.protect 0 && (eqb f.lba 0 && has_no_tags f)

abbrev pub command_of : CdbFields → Result Cdb CdbFault
command_of f =
    if eqb f.op 0x28 then if_fits (fits_ten f) (Read10 (rw_of f))
    else (if eqb f.op 0x2A then if_fits (fits_ten f) (Write10 (rw_of f))
    else (if eqb f.op 0x2F then if_fits (fits_ten f) (Verify10 (rw_of f))
    else (if eqb f.op 0x88 then if_fits (fits_sixteen f) (Read16 (rw_of f))
    else (if eqb f.op 0x8A then if_fits (fits_sixteen f) (Write16 (rw_of f))
    else (if eqb f.op 0x8F then if_fits (fits_sixteen f) (Verify16 (rw_of f))
    else (if eqb f.op 0x7F09 then if_fits (is_protect f.protect) (Read32 (rw_of f))
    else (if eqb f.op 0x7F0B then if_fits (is_protect f.protect) (Write32 (rw_of f))
    else (if eqb f.op 0x9E10 then if_fits (fits_capacity f) (ReadCapacity16 f.n)
    else Err Opcode))))))))

-- the places in bytes, by the first of them and their number
abbrev pub places_of : List ℕ → Places
places_of bytes = places_for (slice_index bytes 0) (length bytes)

-- the bytes without the three fields; bytes of another number than a form has are none
abbrev pub cleared : List ℕ → List ℕ
cleared bytes = if eqb (length bytes) 10 || (eqb (length bytes) 16 || eqb (length bytes) 32) then without_marks (places_of bytes) bytes else bytes

-- the bytes of the numbers of a command: the codec's form with the three fields in their places; or why they are none
abbrev pub with_marks : Cdb → CdbFields → Result (List ℕ) CdbFault
with_marks c f = if marks_fit (places_of (form c)) f.flags f.group f.control then Ok (marked (places_of (form c)) f.flags f.group f.control (form c)) else Err Field

abbrev pub bytes_by : Result Cdb CdbFault → CdbFields → Result (List ℕ) CdbFault
bytes_by (Ok c) f = with_marks c f
bytes_by (Err e) f = Err e

abbrev pub encoded : CdbFields → Result (List ℕ) CdbFault
encoded f = bytes_by (command_of f) f

-- numbers say what bytes say: the bytes are a form of the codec with the three fields in their places
pub record Says (f : CdbFields) (c : Cdb) (bytes : List ℕ) : Type 0 where
  pub fits : Fits c
  pub fields : f ≡ cdb_fields c f.flags f.group f.control
  pub marks : marks_fit (places_of (form c)) f.flags f.group f.control ≡ true
  pub written : bytes ≡ marked (places_of (form c)) f.flags f.group f.control (form c)

-- numbers say what bytes say by some command
abbrev pub Reads : CdbFields → List ℕ → Type 0
Reads f bytes = (c : Cdb) × Says f c bytes
