-- What the codec's commands are here, and bytes that say the same.
use Rattle.std.specs.Prelude.{ℕ, List}
use Rattle.cdb_codec.specs.declared.command.Rw.{Rw}
use Rattle.cdb_codec.specs.declared.command.Cdb.{Cdb}
use Rattle.cdb_codec.specs.declared.command.Cdb.TheVariants.{Read10, Write10, Verify10, Read16, Write16, Verify16, Read32, Write32, ReadCapacity16}
use Rattle.device_commands.specs.declared.command.DeviceCommand.{DeviceCommand}
use Rattle.device_commands.specs.Forms.{Says}

-- the numbers of a command of the codec, which has no flags, no group number and CONTROL 0
abbrev pub of_rw : ℕ → Rw → DeviceCommand
of_rw op c = record {
  lba = c.lba;
  op = op;
  n = c.n;
  rtag = c.rtag;
  app = c.app;
  mask = c.mask;
  protect = c.protect;
  flags = 0;
  bytchk = 0;
  dld = 0;
  group = 0;
  control = 0;
}

abbrev pub of_codec : Cdb → DeviceCommand
of_codec (Read10 c) = of_rw 0x28 c
of_codec (Write10 c) = of_rw 0x2A c
of_codec (Verify10 c) = of_rw 0x2F c
of_codec (Read16 c) = of_rw 0x88 c
of_codec (Write16 c) = of_rw 0x8A c
of_codec (Verify16 c) = of_rw 0x8F c
of_codec (Read32 c) = of_rw 0x7F09 c
of_codec (Write32 c) = of_rw 0x7F0B c
of_codec (ReadCapacity16 len) = of_rw 0x9E10 (record { protect = 0; lba = 0; n = len; rtag = 0; app = 0; mask = 0 })

-- these bytes say what those say
pub record SayAlike (a b : List ℕ) : Type 0 where
  pub there : (c : DeviceCommand) → Says c a → Says c b
  pub back : (c : DeviceCommand) → Says c b → Says c a
