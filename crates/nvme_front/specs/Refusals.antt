use Rattle.std.specs.Prelude.{ℕ, ◌+◌, ◌-◌, ◌*◌, ◌%◌, ◌^◌, Bool, true, false, not, ◌&&◌, ◌||◌, eqb, leb, ltb, if◌then◌else◌, List, [], ◌∷◌, length, slice_index_or, Option, Some, None}
use Rattle.pi_tuple.specs.Finds.{is_zero}
use Rattle.pi_tuple.specs.Tuples.{ref_tag}
use Rattle.pi_tuple.specs.declared.checks.PiType.{PiType}
use Rattle.pi_tuple.specs.declared.checks.PiType.TheVariants.{Zero, One, Two, Three}
use Rattle.rig_api.specs.Passing.{is_one}
use Rattle.volume_table.specs.declared.device.DeviceInfo.{DeviceInfo}
use Rattle.nvme_front.specs.Commands.{is_read, is_write}
use Rattle.nvme_front.specs.Completions.{out_of_range}
use Rattle.nvme_front.specs.declared.command.NvmCommand.{NvmCommand}
use Rattle.nvme_front.specs.declared.completion.Completion.{Completion}
use Rattle.pi_tuple.specs.declared.TheConstants.{TUPLE}

-- The refusals of an NVM command, in their order, and the lengths of its buffers.

-- Invalid Command Opcode, Invalid Field in Command, Invalid Namespace or Format, Invalid Protection Information (NVM Express Base Specification and NVM Command Set, status codes)
abbrev pub invalid_opcode : Completion
invalid_opcode = record { sct = 0; sc = 0x01 }

abbrev pub invalid_field : Completion
invalid_field = record { sct = 0; sc = 0x02 }

abbrev pub invalid_namespace : Completion
invalid_namespace = record { sct = 0; sc = 0x0B }

abbrev pub invalid_protection : Completion
invalid_protection = record { sct = 1; sc = 0x81 }

-- a refusal in its place: whether it comes, and its completion
pub record Refused : Type 0 where
  pub comes : Bool
  pub by : Completion

abbrev pub first_of : List Refused → Option Completion
first_of [] = None
first_of (r ∷ rest) = if r.comes then Some r.by else first_of rest

-- namespace n is the device of number n - 1
abbrev pub has_namespace : List DeviceInfo → ℕ → Bool
has_namespace devices n = leb 1 n && leb n (length devices)

abbrev pub no_device : DeviceInfo
no_device = record { ty = Zero; blocks = 0; size = 0; first = 0 }

abbrev pub device_at : List DeviceInfo → ℕ → DeviceInfo
device_at devices n = slice_index_or devices (n - 1) no_device

abbrev pub is_three : PiType → Bool
is_three Zero = false
is_three One = false
is_three Two = false
is_three Three = true

-- the PRCHK values that are taken: guard is 4, application tag 2, reference tag 1
abbrev pub takes : PiType → ℕ → Bool
takes Zero prchk = true
takes One prchk = eqb prchk 0 || (eqb prchk 4 || eqb prchk 5)
takes Two prchk = eqb prchk 0 || (eqb prchk 4 || (eqb prchk 5 || eqb prchk 7))
takes Three prchk = eqb prchk 0 || eqb prchk 4

-- the reference tag is checked, or made
abbrev pub binds : NvmCommand → Bool
binds c = eqb c.prchk 5 || (is_write c && c.pract)

-- the refusals that the unit's type gives: the reference bit on type 3, other PRCHK values, another initial tag than the first block's on type 1; and a last address past 64 bits
abbrev pub by_type : PiType → NvmCommand → Option Completion
by_type ty c = first_of (
    record { comes = is_three ty && eqb (c.prchk % 2) 1; by = invalid_protection }
    ∷ record { comes = not (takes ty c.prchk); by = invalid_field }
    ∷ record { comes = is_one ty && (binds c && not (eqb c.rtag (ref_tag c.first))); by = invalid_protection }
    ∷ record { comes = ltb (2 ^ 64 - 1) (c.first + c.count); by = out_of_range }
    ∷ [])

-- before them: the opcode, the bits that are to be 0, the namespace, the length
abbrev pub refusal_at : Option Completion → List DeviceInfo → NvmCommand → Option Completion
refusal_at behind devices c =
    if not (is_write c) && not (is_read c) then Some invalid_opcode
    else (if c.reserved then Some invalid_field
    else (if not (has_namespace devices c.nsid) then Some invalid_namespace
    else (if ltb 1024 c.count then Some invalid_field
    else behind)))

-- the first refusal of a command, or none
abbrev pub refusal : List DeviceInfo → NvmCommand → Option Completion
refusal devices c = refusal_at (by_type (device_at devices c.nsid).ty c) devices c

-- metadata moves between host and front: on a unit with tuples, without PRACT
abbrev pub has_meta : PiType → NvmCommand → Bool
has_meta ty c = not (is_zero ty) && not c.pract

-- the bytes of data and of metadata
abbrev pub body_len : DeviceInfo → NvmCommand → ℕ
body_len d c = c.count * d.size

abbrev pub meta_len : PiType → NvmCommand → ℕ
meta_len ty c = if has_meta ty c then c.count * TUPLE else 0

-- a block size that is served
abbrev pub has_size : DeviceInfo → Bool
has_size d = eqb d.size 512 || eqb d.size 4096
