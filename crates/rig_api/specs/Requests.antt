use Rattle.std.specs.Prelude.{ℕ, Bool, false, not, ◌&&◌, eqb, List, Result, Ok, Err}
use Rattle.pi_tuple.specs.declared.checks.PiType.{PiType}
use Rattle.cdb_codec.specs.Decoded.{decoded}
use Rattle.cdb_codec.specs.Rule.{is_two}
use Rattle.cdb_codec.specs.declared.command.Cdb.{Cdb}
use Rattle.cdb_codec.specs.declared.command.Cdb.TheVariants.{Read10, Write10, Verify10, Read16, Write16, Verify16, Read32, Write32, ReadCapacity16}
use Rattle.cdb_codec.specs.declared.command.CdbFault.{CdbFault}
use Rattle.rig_api.specs.declared.request.Request.{Request}
use Rattle.rig_api.specs.declared.request.Request.TheVariants.{Read, Write, Verify, ReadCapacity}

-- what a command asks for, in whichever form it came
abbrev pub request_of : Cdb → Request
request_of (Read10 c) = Read c
request_of (Read16 c) = Read c
request_of (Read32 c) = Read c
request_of (Write10 c) = Write c
request_of (Write16 c) = Write c
request_of (Write32 c) = Write c
request_of (Verify10 c) = Verify c
request_of (Verify16 c) = Verify c
request_of (ReadCapacity16 len) = ReadCapacity len

-- The command has no place on a unit of this type: the form of 32 bytes is served by type 2 alone, and there every command that asks for tuples has it.
abbrev pub is_foreign : PiType → Cdb → Bool
is_foreign ty (Read10 c) = is_two ty && not (eqb c.protect 0)
is_foreign ty (Write10 c) = is_two ty && not (eqb c.protect 0)
is_foreign ty (Verify10 c) = is_two ty && not (eqb c.protect 0)
is_foreign ty (Read16 c) = is_two ty && not (eqb c.protect 0)
is_foreign ty (Write16 c) = is_two ty && not (eqb c.protect 0)
is_foreign ty (Verify16 c) = is_two ty && not (eqb c.protect 0)
is_foreign ty (Read32 c) = not (is_two ty)
is_foreign ty (Write32 c) = not (is_two ty)
is_foreign ty (ReadCapacity16 len) = false

-- the number of blocks that a request transfers: those of a read or a write
abbrev pub transferred : Request → ℕ
transferred (Read c) = c.n
transferred (Write c) = c.n
transferred (Verify c) = 0
transferred (ReadCapacity len) = 0

abbrev pub blocks_in : Result Cdb CdbFault → ℕ
blocks_in (Ok c) = transferred (request_of c)
blocks_in (Err fault) = 0

-- the number of blocks that a command block transfers
abbrev pub blocks_of : List ℕ → ℕ
blocks_of cdb = blocks_in (decoded cdb)
