use Rattle.std.specs.Prelude.{ℕ, ◌+◌, ◌^◌, ◌%◌, Bool, true, false, not, ◌&&◌, eqb, ltb, if◌then◌else◌}
use Rattle.pi_tuple.specs.declared.checks.PiType.{PiType}
use Rattle.pi_tuple.specs.declared.checks.PiType.TheVariants.{Zero, One, Two, Three}
use Rattle.cdb_codec.specs.declared.command.Rw.{Rw}
use Rattle.cdb_codec.specs.declared.command.Cdb.{Cdb}
use Rattle.cdb_codec.specs.declared.command.Cdb.TheVariants.{Read10, Write10, Read16, Write16, Read32, Write32}
use Rattle.cdb_codec.specs.declared.choice.Dir2.{Dir2}
use Rattle.cdb_codec.specs.declared.choice.Dir2.TheVariants.{In, Out}

abbrev pub is_two : PiType → Bool
is_two Zero = false
is_two One = false
is_two Two = true
is_two Three = false

-- READ where the blocks come in, WRITE where they go out
abbrev pub in_10 : Dir2 → Rw → Cdb
in_10 In c = Read10 c
in_10 Out c = Write10 c

abbrev pub in_16 : Dir2 → Rw → Cdb
in_16 In c = Read16 c
in_16 Out c = Write16 c

abbrev pub in_32 : Dir2 → Rw → Cdb
in_32 In c = Read32 c
in_32 Out c = Write32 c

-- a command without expected tags
abbrev pub untagged : ℕ → ℕ → ℕ → Rw
untagged lba n protect = record { protect = protect; lba = lba; n = n; rtag = 0; app = 0; mask = 0 }

-- a command that expects the low 32 bits of the address as first reference tag, and where the protect field is 001b this application tag under this mask
abbrev pub tagged : ℕ → ℕ → ℕ → ℕ → ℕ → Rw
tagged lba n protect app mask = record {
  protect = protect;
  lba = lba;
  n = n;
  rtag = lba % 2 ^ 32;
  app = if eqb protect 1 then app else 0;
  mask = if eqb protect 1 then mask else 0;
}

-- the form of 10 bytes reaches the last block and holds the length
abbrev pub fits_10 : ℕ → ℕ → Bool
fits_10 lba n = ltb (lba + n) (2 ^ 32 + 1) && ltb n (2 ^ 16)

-- 32 bytes for type 2 with a protect field that isn't 0, else 10 bytes where they do, else 16
abbrev pub chosen : PiType → Dir2 → ℕ → ℕ → ℕ → ℕ → ℕ → Cdb
chosen ty dir lba n protect app mask =
    if is_two ty && not (eqb protect 0) then in_32 dir (tagged lba n protect app mask)
    else (if fits_10 lba n then in_10 dir (untagged lba n protect)
    else in_16 dir (untagged lba n protect))
