use Rattle.std.specs.Prelude.{ℕ, ◌≡◌, ◌+◌, ◌^◌, ◌<◌, ◌≤◌, true, List, length, None, All, Contains}
use Rattle.pi_tuple.specs.declared.checks.PiType.{PiType}
use Rattle.volume_table.specs.declared.device.DeviceInfo.{DeviceInfo}
use Rattle.volume_table.specs.declared.entry.Entry.{Entry}
use Rattle.volume_table.specs.declared.extent.Extent.{Extent}
use Rattle.volume_table.specs.Entries.{IsInRange, entry_place, extents, is_held}
use Rattle.volume_table.specs.Faults.{device, table_fault}
use Rattle.volume_table.specs.Places.{place_in, run_in, volume_len}

-- what a table is: its entries, and the one type of their devices
pub record Table : Type 0 where
  pub entries : List Entry
  pub ty : PiType

-- The extent has the block at this address.
abbrev pub HasBlock : Extent → ℕ → Type 0
HasBlock x lba = (x.at ≤ lba) × (lba < x.at + x.len)

-- The extents have a block in common.
abbrev pub ShareBlock : Extent → Extent → Type 0
ShareBlock a b = (a.dev ≡ b.dev) × ((lba : ℕ) × HasBlock a lba × HasBlock b lba)

-- The end of a device fits 64 bits.
abbrev pub EndFits : DeviceInfo → Type 0
EndFits d = d.first + d.blocks < 2 ^ 64

-- The n blocks from this address on lie on the device of this number, which has this type and this block size.
pub record IsOn (devices : List DeviceInfo) (ty : PiType) (size dev at n : ℕ) : Type 0 where
  pub known : dev < length devices
  pub begins : (device devices dev).first ≤ at
  pub ends : at + n ≤ (device devices dev).first + (device devices dev).blocks
  pub type_is : (device devices dev).ty ≡ ty
  pub size_is : (device devices dev).size ≡ size

-- k blocks after v, the run from v goes on: the block is the volume's, on the same device, k addresses further.
pub record RunGoesOn (entries : List Entry) (v k : ℕ) : Type 0 where
  pub within : v + k < volume_len entries
  pub place : place_in entries (v + k) ≡ ((place_in entries v).0, (place_in entries v).1 + k)

-- The table was made for these devices and this block size; with this, all that holds of where its blocks lie.
pub record MadeFor (t : Table) (devices : List DeviceInfo) (size : ℕ) : Type 0 where
  -- The entries and devices are as `new` requires, and no entry is at fault.
  pub count : length t.entries ≤ 16
  pub ranges : All IsInRange t.entries
  pub ends : All EndFits devices
  pub right : table_fault t.entries devices size ≡ None
  -- A block lies where the formula of the entry that holds it says.
  pub formula : (e : Entry) (v : ℕ) → Contains t.entries e → is_held v e ≡ true → place_in t.entries v ≡ entry_place e v
  -- Each block has an entry.
  pub held : (v : ℕ) → v < volume_len t.entries → (e : Entry) × Contains t.entries e × (is_held v e ≡ true)
  -- No two blocks have one place.
  pub alone : (v w : ℕ) → v < volume_len t.entries → w < volume_len t.entries → place_in t.entries v ≡ place_in t.entries w → v ≡ w
  -- Each block lies inside its device, which has the table's type and the block size.
  pub inside : (v : ℕ) → v < volume_len t.entries → IsOn devices t.ty size (place_in t.entries v).0 (place_in t.entries v).1 1
  -- So does each extent of each entry.
  pub extents_inside : (e : Entry) → Contains t.entries e → All (λ x. IsOn devices t.ty size x.dev x.at x.len) (extents e)
  -- A run has a block, and its blocks lie on one device at consecutive addresses.
  pub some : (v : ℕ) → v < volume_len t.entries → 1 ≤ run_in t.entries v
  pub runs : (v k : ℕ) → v < volume_len t.entries → k < run_in t.entries v → RunGoesOn t.entries v k

-- A table was made for some devices.
pub record IsTable (t : Table) : Type 0 where
  pub devices : List DeviceInfo
  pub size : ℕ
  pub made : MadeFor t devices size
