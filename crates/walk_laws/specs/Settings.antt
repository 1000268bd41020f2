use Rattle.std.specs.Prelude.{ℕ, ◌+◌, Bool, List}
use Rattle.pi_tuple.specs.declared.checks.PiType.{PiType}
use Rattle.volume_table.specs.declared.entry.Entry.{Entry}
use Rattle.volume_table.specs.Places.{place_in}
use Rattle.block_path.specs.declared.mode.Mode.{Mode}
use Rattle.block_path.specs.declared.route.Route.{Route}
use Rattle.block_path.specs.Blocks.{Site}

-- What a script runs with.

-- How tuples travel; the volume: its type, the bytes of data in a block and its extents; where blocks go, with the armed faults; and which overwrites fail, by their ops.
pub record Setting : Type 0 where
  pub mode : Mode
  pub ty : PiType
  pub size : ℕ
  pub entries : List Entry
  pub site : Site
  pub fails : ℕ → Bool

-- a block of a request: its op, its place there, and its virtual block
pub record Block : Type 0 where
  pub op : ℕ
  pub k : ℕ
  pub virt : ℕ

-- block k of op i, a request whose first virtual block is v
abbrev pub block_of : (i v k : ℕ) → Block
block_of i v k = record { op = i; k = k; virt = v + k }

-- the block on its way
abbrev pub route : Setting → Block → Route
route m b = record {
  label = record { op = b.op; k = b.k };
  virt = b.virt;
  dev = (place_in m.entries b.virt).0;
  lba = (place_in m.entries b.virt).1;
  ty = m.ty;
  size = m.size;
  mode = m.mode;
}
