-- What a script runs with, that was bound to a volume of devices.
use Rattle.std.specs.Prelude.{ℕ, ◌≡◌, ◌+◌, ◌<◌, ◌≤◌, List, length}
use Rattle.volume_table.specs.declared.device.DeviceInfo.{DeviceInfo}
use Rattle.volume_table.specs.Faults.{device}
use Rattle.volume_table.specs.Tables.{Table}
use Rattle.run_laws.specs.Passed.{Setting}
use Rattle.script_laws.specs.Passed.{Script}

-- The device of this number is there, and has a block at this address.
pub record IsAddress (devices : List DeviceInfo) (dev lba : ℕ) : Type 0 where
  pub known : dev < length devices
  pub begins : (device devices dev).first ≤ lba
  pub ends : lba < (device devices dev).first + (device devices dev).blocks

-- The mode, the block size and the faults are the script's, the type and the entries those of the volume. Each address of the devices has a cell of its own, and a log.
pub record IsSettingOf (m : Setting) (s : Script) (t : Table) (devices : List DeviceInfo) (logs : ℕ) : Type 0 where
  pub mode : m.mode ≡ s.mode
  pub ty : m.ty ≡ t.ty
  pub size : m.size ≡ s.block
  pub entries : m.entries ≡ t.entries
  pub faults : m.site.faults ≡ s.faults
  pub apart : (dev lba other at : ℕ) → IsAddress devices dev lba → IsAddress devices other at → m.site.cell dev lba ≡ m.site.cell other at → (dev ≡ other) × (lba ≡ at)
  pub logged : (dev lba : ℕ) → IsAddress devices dev lba → m.site.cell dev lba < logs
