use Rattle.std.specs.Prelude.{ℕ, eqb, if◌then◌else◌, List, [], ◌∷◌, ◌++◌, codes, decimal, Option, Some, None, Result, Ok, Err}
use Rattle.std.specs.Int.{w16, w32, to_be_bytes}
use Rattle.hex.specs.Hex.{encode_lower}
use Rattle.cdb_codec.specs.Decoded.{decoded}
use Rattle.cdb_codec.specs.declared.command.Rw.{Rw}
use Rattle.cdb_codec.specs.declared.command.Cdb.{Cdb}
use Rattle.cdb_codec.specs.declared.command.Cdb.TheVariants.{Read10, Write10, Verify10, Read16, Write16, Verify16, Read32, Write32, ReadCapacity16}
use Rattle.cdb_codec.specs.declared.command.CdbFault.{CdbFault}
use Rattle.rig_api.specs.declared.rig.Outcome.{Outcome}
use Rattle.rig_api.specs.declared.rig.Record.{Record}
use Rattle.sense_codes.specs.declared.Sense.{Sense}
use Rattle.sense_codes.specs.declared.codes.TheConstants.{MEDIUM_ERROR, ILLEGAL_REQUEST, ABORTED_COMMAND, INVALID_OPCODE, OUT_OF_RANGE, INVALID_FIELD, UNRECOVERED_READ, WRITE_ERROR, PROTECTION}

-- A command and what came of it, in words.

-- the fields that each read, write and verify has
abbrev pub rw_words : (name : List ℕ) → Rw → List ℕ
rw_words name c = name ++ (codes " at " ++ (decimal c.lba ++ (codes " of " ++ (decimal c.n ++ (codes " under " ++ decimal c.protect)))))

-- the expected tags, which the forms of 32 bytes have
abbrev pub tag_words : Rw → List ℕ
tag_words c =
    codes " tag " ++ (encode_lower (to_be_bytes w32 c.rtag) ++ (codes " app " ++ (encode_lower (to_be_bytes w16 c.app) ++ (codes " mask " ++ encode_lower (to_be_bytes w16 c.mask)))))

abbrev pub command_words : Cdb → List ℕ
command_words (Read10 c) = rw_words (codes "READ(10)") c
command_words (Write10 c) = rw_words (codes "WRITE(10)") c
command_words (Verify10 c) = rw_words (codes "VERIFY(10)") c
command_words (Read16 c) = rw_words (codes "READ(16)") c
command_words (Write16 c) = rw_words (codes "WRITE(16)") c
command_words (Verify16 c) = rw_words (codes "VERIFY(16)") c
command_words (Read32 c) = rw_words (codes "READ(32)") c ++ tag_words c
command_words (Write32 c) = rw_words (codes "WRITE(32)") c ++ tag_words c
command_words (ReadCapacity16 len) = codes "READ CAPACITY(16) of " ++ decimal len

-- what is no command is told by its digits
abbrev pub words_by : Result Cdb CdbFault → (cdb : List ℕ) → List ℕ
words_by (Ok command) cdb = command_words command
words_by (Err fault) cdb = encode_lower cdb

-- a command descriptor block
abbrev pub cdb_words : List ℕ → List ℕ
cdb_words cdb = words_by (decoded cdb) cdb

-- the sense key (SPC-4, 4.5.6)
abbrev pub key_words : ℕ → List ℕ
key_words key =
    if eqb key MEDIUM_ERROR then codes "MEDIUM ERROR"
    else (if eqb key ILLEGAL_REQUEST then codes "ILLEGAL REQUEST"
    else (if eqb key ABORTED_COMMAND then codes "ABORTED COMMAND"
    else codes "key " ++ encode_lower (key ∷ [])))

-- an additional sense code and a qualifier without a name here
abbrev pub other_words : (asc ascq : ℕ) → List ℕ
other_words asc ascq = codes "asc " ++ (encode_lower (asc ∷ []) ++ (codes " ascq " ++ encode_lower (ascq ∷ [])))

-- a check of protection information that failed, by its qualifier
abbrev pub check_words : (asc ascq : ℕ) → List ℕ
check_words asc ascq =
    if eqb ascq 0x01 then codes "guard check failed"
    else (if eqb ascq 0x02 then codes "application tag check failed"
    else (if eqb ascq 0x03 then codes "reference tag check failed"
    else other_words asc ascq))

-- a code with the qualifier 00h
abbrev pub plain_words : (asc ascq : ℕ) → List ℕ
plain_words asc ascq =
    if eqb asc INVALID_OPCODE then codes "invalid command operation code"
    else (if eqb asc OUT_OF_RANGE then codes "logical block address out of range"
    else (if eqb asc INVALID_FIELD then codes "invalid field in cdb"
    else (if eqb asc UNRECOVERED_READ then codes "unrecovered read error"
    else (if eqb asc WRITE_ERROR then codes "write error"
    else other_words asc ascq))))

-- the additional sense code and its qualifier (SPC-4, 4.5.6)
abbrev pub code_words : (asc ascq : ℕ) → List ℕ
code_words asc ascq = if eqb asc PROTECTION then check_words asc ascq else (if eqb ascq 0x00 then plain_words asc ascq else other_words asc ascq)

-- the block that the sense speaks of
abbrev pub info_words : Option ℕ → List ℕ
info_words None = []
info_words (Some lba) = codes ", at " ++ decimal lba

abbrev pub sense_words : Option Sense → List ℕ
sense_words None = []
sense_words (Some s) = codes ", " ++ (key_words s.key ++ (codes ", " ++ (code_words s.asc s.ascq ++ info_words s.info)))

-- what stands behind the words of a command: how many blocks were done, and the sense
abbrev pub outcome_words : Outcome → List ℕ
outcome_words o = codes ": done " ++ (decimal o.done ++ (sense_words o.sense ++ codes "\n"))

-- the line of the record of this number
abbrev pub command_line : (number : ℕ) → Record → List ℕ
command_line number r = codes "command " ++ (decimal number ++ (codes " dev " ++ (decimal r.dev ++ (codes " " ++ (cdb_words r.cdb ++ outcome_words r.outcome)))))
