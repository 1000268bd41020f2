use Rattle.std.specs.Prelude.{ℕ, Bool, leb, ltb, ◌&&◌, if◌then◌else◌, List, [], ◌∷◌, length, Option, Some, None}
use Rattle.std.specs.Prelude.{Result, Ok, Err}
use Rattle.cdb_codec.specs.Decoded.{decoded}
use Rattle.cdb_codec.specs.declared.command.Cdb.{Cdb}
use Rattle.cdb_codec.specs.declared.command.CdbFault.{CdbFault}
use Rattle.rig_api.specs.Requests.{request_of}
use Rattle.rig_api.specs.declared.request.Request.{Request}
use Rattle.rig_api.specs.declared.request.Request.TheVariants.{Read, Write, Verify, ReadCapacity}
use Rattle.script_lines.specs.declared.kind.ScriptKind.TheVariants.{BadRange}
use Rattle.vector_lines.specs.declared.line.VectorLine.{VectorLine}
use Rattle.script_text.specs.declared.fault.ScriptFault.{ScriptFault}

-- Whether a rig can do the commands of a list.

abbrev pub asked : Request → ℕ
asked (Read c) = c.n
asked (Write c) = c.n
asked (Verify c) = c.n
asked (ReadCapacity len) = 0

abbrev pub asked_in : Result Cdb CdbFault → ℕ
asked_in (Ok c) = asked (request_of c)
asked_in (Err fault) = 0

-- the number of blocks that a command block asks for: to be read, written or verified
abbrev pub asked_of : List ℕ → ℕ
asked_of cdb = asked_in (decoded cdb)

-- The device is there, and the command has at most 1,024 blocks, and 32 bytes as every one of a list.
abbrev pub is_inside : (devices : ℕ) → VectorLine → Bool
is_inside devices l = ltb l.dev devices && (leb (asked_of l.cdb) 1024 && leb (length l.cdb) 32)

-- the first line of which this isn't so
abbrev pub out_of_range : (devices : ℕ) → List VectorLine → Option ScriptFault
out_of_range devices [] = None
out_of_range devices (l ∷ ls) = if is_inside devices l then out_of_range devices ls else Some (record { line = l.number; kind = BadRange })
