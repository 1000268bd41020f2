-- The numbers at their places in bytes, whatever the bits beside them are.
use Rattle.std.specs.Prelude.{ℕ, ◌+◌, ◌*◌, ◌/◌, ◌%◌, List, slice_index}
use Rattle.cdb_codec.specs.Decoded.{eight_at, four_at, two_at}
use Rattle.device_commands.specs.declared.op.Op.{Op}
use Rattle.device_commands.specs.declared.op.Size.{Size}
use Rattle.device_commands.specs.declared.op.Size.TheVariants.{Ten, Twelve, Sixteen, ThirtyTwo}
use Rattle.device_commands.specs.declared.op.Kind.{Kind}
use Rattle.device_commands.specs.declared.op.Kind.TheVariants.{Reads, Writes, Swaps, Verifies, Repeats, Asks}
use Rattle.device_commands.specs.declared.command.DeviceCommand.{DeviceCommand}
use Rattle.device_commands.specs.Ops.{kind_of, number, size_of}

-- the flags in bits 4 to 0
abbrev pub flags_in : Kind → ℕ → ℕ
flags_in Reads bits = (bits / 2) * 2
flags_in Writes bits = (bits / 2) * 2
flags_in Swaps bits = (bits / 2) * 2
flags_in Verifies bits = (bits / 16) * 16
flags_in Repeats bits = bits * 256
flags_in Asks bits = 0

abbrev pub bytchk_in : Kind → ℕ → ℕ
bytchk_in Reads bits = 0
bytchk_in Writes bits = 0
bytchk_in Swaps bits = 0
bytchk_in Verifies bits = (bits / 2) % 4
bytchk_in Repeats bits = 0
bytchk_in Asks bits = 0

-- the high bit of DLD, where bit 0 is that
abbrev pub dld_in : Kind → ℕ → ℕ
dld_in Reads bits = (bits % 2) * 4
dld_in Writes bits = (bits % 2) * 4
dld_in Swaps bits = 0
dld_in Verifies bits = 0
dld_in Repeats bits = 0
dld_in Asks bits = 0

abbrev pub ten_in : ℕ → Kind → List ℕ → DeviceCommand
ten_in op kind b = record {
  lba = four_at b 2;
  op = op;
  n = two_at b 7;
  rtag = 0;
  app = 0;
  mask = 0;
  protect = slice_index b 1 / 32;
  flags = flags_in kind (slice_index b 1 % 32);
  bytchk = bytchk_in kind (slice_index b 1 % 32);
  dld = 0;
  group = slice_index b 6;
  control = slice_index b 9;
}

abbrev pub twelve_in : ℕ → Kind → List ℕ → DeviceCommand
twelve_in op kind b = record {
  lba = four_at b 2;
  op = op;
  n = four_at b 6;
  rtag = 0;
  app = 0;
  mask = 0;
  protect = slice_index b 1 / 32;
  flags = flags_in kind (slice_index b 1 % 32);
  bytchk = bytchk_in kind (slice_index b 1 % 32);
  dld = 0;
  group = slice_index b 10;
  control = slice_index b 11;
}

abbrev pub sixteen_in : ℕ → Kind → List ℕ → DeviceCommand
sixteen_in op kind b = record {
  lba = eight_at b 2;
  op = op;
  n = four_at b 10;
  rtag = 0;
  app = 0;
  mask = 0;
  protect = slice_index b 1 / 32;
  flags = flags_in kind (slice_index b 1 % 32);
  bytchk = bytchk_in kind (slice_index b 1 % 32);
  dld = dld_in kind (slice_index b 1 % 32) + slice_index b 14 / 64;
  group = slice_index b 14 % 64;
  control = slice_index b 15;
}

abbrev pub thirty_two_in : ℕ → Kind → List ℕ → DeviceCommand
thirty_two_in op kind b = record {
  lba = eight_at b 12;
  op = op;
  n = four_at b 28;
  rtag = four_at b 20;
  app = two_at b 24;
  mask = two_at b 26;
  protect = slice_index b 10 / 32;
  flags = flags_in kind (slice_index b 10 % 32);
  bytchk = bytchk_in kind (slice_index b 10 % 32);
  dld = slice_index b 11;
  group = slice_index b 6;
  control = slice_index b 1;
}

abbrev pub told_by : Size → ℕ → Kind → List ℕ → DeviceCommand
told_by Ten op kind b = ten_in op kind b
told_by Twelve op kind b = twelve_in op kind b
told_by Sixteen op kind b = sixteen_in op kind b
told_by ThirtyTwo op kind b = thirty_two_in op kind b

abbrev pub told : Op → List ℕ → DeviceCommand
told o b = told_by (size_of o) (number o) (kind_of o) b
