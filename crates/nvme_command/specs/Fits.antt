use Rattle.std.specs.Prelude.{ℕ, Bool, true, eqb, if◌then◌else◌, List, [], ◌∷◌, length, Option, Some, None}
use Rattle.script_lines.specs.declared.kind.ScriptKind.TheVariants.{BadRange}
use Rattle.volume_table.specs.declared.device.DeviceInfo.{DeviceInfo}
use Rattle.nvme_front.specs.Commands.{command_in, is_write}
use Rattle.nvme_front.specs.Refusals.{device_at, meta_len, refusal}
use Rattle.nvme_front.specs.declared.command.NvmCommand.{NvmCommand}
use Rattle.nvme_front.specs.declared.completion.Completion.{Completion}
use Rattle.nvme_command.specs.declared.line.NvmLine.{NvmLine}
use Rattle.script_text.specs.declared.fault.ScriptFault.{ScriptFault}

-- Which metadata fit a line's command.

abbrev pub command_of : NvmLine → NvmCommand
command_of l = command_in l.sqe

-- the device of a line's namespace
abbrev pub device_of_line : List DeviceInfo → NvmLine → DeviceInfo
device_of_line devices l = device_at devices (command_of l).nsid

-- a write needs the tuples of its blocks, or none; a read takes none
abbrev pub meta_wanted : NvmCommand → ℕ → ℕ
meta_wanted c meta = if is_write c then meta else 0

abbrev pub fits_by : Option Completion → Bool → Bool
fits_by None b = b
fits_by (Some refused) b = true

-- The line has as many bytes of metadata as its command needs; of one that is refused nothing is asked.
abbrev pub fits : List DeviceInfo → NvmLine → Bool
fits devices l = fits_by (refusal devices (command_of l)) (eqb (length l.meta) (meta_wanted (command_of l) (meta_len (device_of_line devices l).ty (command_of l))))

-- the first line that has others
abbrev pub misfit : List DeviceInfo → List NvmLine → Option ScriptFault
misfit devices [] = None
misfit devices (l ∷ ls) = if fits devices l then misfit devices ls else Some (record { line = l.number; kind = BadRange })
