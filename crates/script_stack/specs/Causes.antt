-- The volume that a script names.
use Rattle.std.specs.Prelude.{List}
use Rattle.volume_table.specs.declared.device.DeviceInfo.{DeviceInfo}
use Rattle.volume_table.specs.Faults.{volume_type}
use Rattle.volume_table.specs.Tables.{Table}
use Rattle.script_text.specs.declared.script.Script.{Script}

-- the volume of a script over these devices
abbrev pub table_of : Script → List DeviceInfo → Table
table_of s devices = record { entries = s.entries; ty = volume_type s.entries devices }
