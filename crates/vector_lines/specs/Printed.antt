use Rattle.std.specs.Prelude.{ℕ, Bool, true, false, if◌then◌else◌, List, [], ◌∷◌, ◌++◌, codes, decimal, Result, Ok, Err}
use Rattle.hex.specs.Hex.{encode_lower}
use Rattle.cdb_codec.specs.Decoded.{decoded}
use Rattle.cdb_codec.specs.declared.command.Cdb.{Cdb}
use Rattle.cdb_codec.specs.declared.command.CdbFault.{CdbFault}
use Rattle.rig_api.specs.Requests.{request_of}
use Rattle.rig_api.specs.declared.request.Request.{Request}
use Rattle.rig_api.specs.declared.request.Request.TheVariants.{Read, Write, Verify, ReadCapacity}
use Rattle.rig_api.specs.declared.rig.Outcome.{Outcome}
use Rattle.rig_api.specs.declared.rig.Record.{Record}
use Rattle.report_text.specs.Trace.{sense_text}

-- The line of a command and what came of it: v DEV CDB OUT DONE SENSE IN.

abbrev pub sends : Request → Bool
sends (Read c) = false
sends (Write c) = true
sends (Verify c) = false
sends (ReadCapacity len) = false

abbrev pub is_sender : Result Cdb CdbFault → Bool
is_sender (Ok cdb) = sends (request_of cdb)
is_sender (Err fault) = false

-- the command block is that of a write, whose bytes go to the device
abbrev pub is_write : List ℕ → Bool
is_write cdb = is_sender (decoded cdb)

-- which of a command's moved bytes went to the device: those of a write
abbrev pub out_of : (cdb moved : List ℕ) → List ℕ
out_of cdb moved = if is_write cdb then moved else []

-- which of them came back: those of any other command
abbrev pub in_of : (cdb moved : List ℕ) → List ℕ
in_of cdb moved = if is_write cdb then [] else moved

-- a space and the digits of the bytes, or a hyphen where there are none
abbrev pub word_text : List ℕ → List ℕ
word_text [] = codes " -"
word_text (b ∷ bs) = codes " " ++ encode_lower (b ∷ bs)

-- the device and the command block
abbrev pub head_text : Record → List ℕ
head_text r = (codes "v " ++ decimal r.dev) ++ word_text r.cdb

-- how many blocks are done, and the sense data or a hyphen
abbrev pub outcome_text : Outcome → List ℕ
outcome_text o = codes " " ++ (decimal o.done ++ (codes " " ++ sense_text o.sense))

-- the outcome, what came back, and the end of the line
abbrev pub tail_text : Outcome → List ℕ → List ℕ
tail_text o came = outcome_text o ++ (word_text came ++ codes "\n")

-- the line of a command, of what was sent and of what came back
abbrev pub vector_line : Record → (sent came : List ℕ) → List ℕ
vector_line r sent came = head_text r ++ (word_text sent ++ tail_text r.outcome came)

-- the first line of a list
abbrev pub first_line : List ℕ
first_line = codes "dix vectors 1\n"
