-- The commands that are served, by their operation codes and service actions (SBC-3, 5.1), and what each is made of.
use Rattle.std.specs.Prelude.{ℕ, ◌%◌, not, eqb, leb, ltb, if◌then◌else◌, List, length, slice_index, Option, Some, None, Result, Ok, Err}
use Rattle.cdb_codec.specs.declared.command.CdbFault.{CdbFault}
use Rattle.cdb_codec.specs.declared.command.CdbFault.TheVariants.{Opcode, Field, Length}
use Rattle.device_commands.specs.declared.op.Op.{Op}
use Rattle.device_commands.specs.declared.op.Op.TheVariants.{Read10, Read12, Read16, Read32, Write10, Write12, Write16, Write32, WriteVerify10, WriteVerify12, WriteVerify16, WriteVerify32, Verify10, Verify12, Verify16, Verify32, WriteSame10, WriteSame16, WriteSame32, CompareWrite, ReadCapacity16}
use Rattle.device_commands.specs.declared.op.Size.{Size}
use Rattle.device_commands.specs.declared.op.Size.TheVariants.{Ten, Twelve, Sixteen, ThirtyTwo}
use Rattle.device_commands.specs.declared.op.Kind.{Kind}
use Rattle.device_commands.specs.declared.op.Kind.TheVariants.{Reads, Writes, Swaps, Verifies, Repeats, Asks}

-- the operation code, followed by the service action where it has one
abbrev pub number : Op → ℕ
number Read10 = 0x28
number Read12 = 0xA8
number Read16 = 0x88
number Read32 = 0x7F09
number Write10 = 0x2A
number Write12 = 0xAA
number Write16 = 0x8A
number Write32 = 0x7F0B
number WriteVerify10 = 0x2E
number WriteVerify12 = 0xAE
number WriteVerify16 = 0x8E
number WriteVerify32 = 0x7F0C
number Verify10 = 0x2F
number Verify12 = 0xAF
number Verify16 = 0x8F
number Verify32 = 0x7F0A
number WriteSame10 = 0x41
number WriteSame16 = 0x93
number WriteSame32 = 0x7F0D
number CompareWrite = 0x89
number ReadCapacity16 = 0x9E10

-- the first byte; of commands of 32 bytes the service action's low byte
abbrev pub code_of : Op → ℕ
code_of Read10 = 0x28
code_of Read12 = 0xA8
code_of Read16 = 0x88
code_of Read32 = 0x09
code_of Write10 = 0x2A
code_of Write12 = 0xAA
code_of Write16 = 0x8A
code_of Write32 = 0x0B
code_of WriteVerify10 = 0x2E
code_of WriteVerify12 = 0xAE
code_of WriteVerify16 = 0x8E
code_of WriteVerify32 = 0x0C
code_of Verify10 = 0x2F
code_of Verify12 = 0xAF
code_of Verify16 = 0x8F
code_of Verify32 = 0x0A
code_of WriteSame10 = 0x41
code_of WriteSame16 = 0x93
code_of WriteSame32 = 0x0D
code_of CompareWrite = 0x89
code_of ReadCapacity16 = 0x9E

-- how many bytes it has
abbrev pub size_of : Op → Size
size_of Read10 = Ten
size_of Read12 = Twelve
size_of Read16 = Sixteen
size_of Read32 = ThirtyTwo
size_of Write10 = Ten
size_of Write12 = Twelve
size_of Write16 = Sixteen
size_of Write32 = ThirtyTwo
size_of WriteVerify10 = Ten
size_of WriteVerify12 = Twelve
size_of WriteVerify16 = Sixteen
size_of WriteVerify32 = ThirtyTwo
size_of Verify10 = Ten
size_of Verify12 = Twelve
size_of Verify16 = Sixteen
size_of Verify32 = ThirtyTwo
size_of WriteSame10 = Ten
size_of WriteSame16 = Sixteen
size_of WriteSame32 = ThirtyTwo
size_of CompareWrite = Sixteen
size_of ReadCapacity16 = Sixteen

abbrev pub count_of : Size → ℕ
count_of Ten = 10
count_of Twelve = 12
count_of Sixteen = 16
count_of ThirtyTwo = 32

-- what the bits beside its protect field are
abbrev pub kind_of : Op → Kind
kind_of Read10 = Reads
kind_of Read12 = Reads
kind_of Read16 = Reads
kind_of Read32 = Reads
kind_of Write10 = Writes
kind_of Write12 = Writes
kind_of Write16 = Writes
kind_of Write32 = Writes
kind_of WriteVerify10 = Verifies
kind_of WriteVerify12 = Verifies
kind_of WriteVerify16 = Verifies
kind_of WriteVerify32 = Verifies
kind_of Verify10 = Verifies
kind_of Verify12 = Verifies
kind_of Verify16 = Verifies
kind_of Verify32 = Verifies
kind_of WriteSame10 = Repeats
kind_of WriteSame16 = Repeats
kind_of WriteSame32 = Repeats
kind_of CompareWrite = Swaps
kind_of ReadCapacity16 = Asks

-- by operation code, but 7Fh and 9Eh
abbrev pub by_code : ℕ → Option Op
by_code code =
    if eqb code 0x28 then Some Read10
    else (if eqb code 0xA8 then Some Read12
    else (if eqb code 0x88 then Some Read16
    else (if eqb code 0x2A then Some Write10
    else (if eqb code 0xAA then Some Write12
    else (if eqb code 0x8A then Some Write16
    else (if eqb code 0x2E then Some WriteVerify10
    else (if eqb code 0xAE then Some WriteVerify12
    else (if eqb code 0x8E then Some WriteVerify16
    else (if eqb code 0x2F then Some Verify10
    else (if eqb code 0xAF then Some Verify12
    else (if eqb code 0x8F then Some Verify16
    else (if eqb code 0x41 then Some WriteSame10
    else (if eqb code 0x93 then Some WriteSame16
    else (if eqb code 0x89 then Some CompareWrite
    else None))))))))))))))

-- by service action, behind 7Fh
abbrev pub by_action : ℕ → Option Op
by_action action =
    if eqb action 0x09 then Some Read32
    else (if eqb action 0x0A then Some Verify32
    else (if eqb action 0x0B then Some Write32
    else (if eqb action 0x0C then Some WriteVerify32
    else (if eqb action 0x0D then Some WriteSame32
    else None))))

-- a command of at most so many bytes
abbrev pub when_long : Option Op → List ℕ → Result Op CdbFault
when_long None b = Err Opcode
when_long (Some o) b = if leb (count_of (size_of o)) (length b) then Ok o else Err Length

-- behind 7Fh: the additional length in byte 7 is 18h, and the service action stands in bytes 8 and 9 (SPC-4, 4.2.3)
abbrev pub variable_in : List ℕ → Result Op CdbFault
variable_in b =
    if ltb (length b) 8 then Err Length
    else (if not (eqb (slice_index b 7) 0x18) then Err Field
    else (if ltb (length b) 32 then Err Length
    else (if not (eqb (slice_index b 8) 0) then Err Opcode
    else when_long (by_action (slice_index b 9)) b)))

-- behind 9Eh: the service action in bits 4 to 0 of byte 1
abbrev pub service_in : List ℕ → Result Op CdbFault
service_in b =
    if ltb (length b) 16 then Err Length
    else (if not (eqb (slice_index b 1 % 32) 0x10) then Err Opcode
    else Ok ReadCapacity16)

-- the command that bytes begin with and are enough for; or why there is none: no bytes or too few, a code that isn't served, another additional length
abbrev pub op_in : List ℕ → Result Op CdbFault
op_in b =
    if eqb (length b) 0 then Err Length
    else (if eqb (slice_index b 0) 0x7F then variable_in b
    else (if eqb (slice_index b 0) 0x9E then service_in b
    else when_long (by_code (slice_index b 0)) b))

-- why bytes are no command: there is none that they begin with, or a field of it isn't served
abbrev pub fault_by : Result Op CdbFault → CdbFault
fault_by (Err e) = e
fault_by (Ok o) = Field

abbrev pub fault_of : List ℕ → CdbFault
fault_of b = fault_by (op_in b)
