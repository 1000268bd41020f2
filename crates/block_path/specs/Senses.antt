use Rattle.std.specs.Prelude.{ℕ, Bool, true, false, ◌&&◌, ◌||◌, eqb, if◌then◌else◌, Option, Some, None}
use Rattle.pi_tuple.specs.declared.checks.Check.{Check}
use Rattle.pi_tuple.specs.declared.checks.Check.TheVariants.{Guard, AppTag, RefTag}
use Rattle.sense_codes.specs.declared.Sense.{Sense}
use Rattle.bio_core.specs.declared.fate.Why.{Why}
use Rattle.bio_core.specs.declared.fate.Why.TheVariants.{Adapter, App, Block, Medium, Refused, Short, Target}
use Rattle.sense_codes.specs.declared.codes.TheConstants.{MEDIUM_ERROR, UNRECOVERED_READ, WRITE_ERROR, PROTECTION}

-- the check that the qualifier of ASC 10h names (SPC-4)
abbrev pub check_of : ℕ → Option Check
check_of ascq = if eqb ascq 1 then Some Guard else (if eqb ascq 2 then Some AppTag else (if eqb ascq 3 then Some RefTag else None))

-- ASC 10h with key 5h is the adapter's finding, with key Bh the target's
abbrev pub layer_of : ℕ → Check → Option Why
layer_of key check = if eqb key 5 then Some (Adapter check) else (if eqb key 11 then Some (Target check) else None)

abbrev pub finding_of : ℕ → Option Check → Option Why
finding_of key None = None
finding_of key (Some check) = layer_of key check

-- MEDIUM ERROR with UNRECOVERED READ ERROR or WRITE ERROR
abbrev pub is_medium : Sense → Bool
is_medium s = eqb s.key MEDIUM_ERROR && (eqb s.ascq 0 && (eqb s.asc UNRECOVERED_READ || eqb s.asc WRITE_ERROR))

abbrev pub named_by : Sense → Option Why
named_by s = if eqb s.asc PROTECTION then finding_of s.key (check_of s.ascq) else None

abbrev pub why_of : Option Why → Sense → Why
why_of (Some w) s = w
why_of None s = if is_medium s then Medium else Refused s.key s.asc s.ascq

-- why a block failed at which a command ended, by the sense of the command
abbrev pub why_ended : Option Sense → Why
why_ended None = Short
why_ended (Some s) = why_of (named_by s) s

-- listed for the medium
abbrev pub is_medium_why : Why → Bool
is_medium_why (Adapter check) = false
is_medium_why (Target check) = false
is_medium_why (Block check) = false
is_medium_why (App check) = false
is_medium_why Medium = true
is_medium_why (Refused key asc ascq) = false
is_medium_why Short = false
