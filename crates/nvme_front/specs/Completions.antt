use Rattle.std.specs.Prelude.{ℕ, Bool, ◌&&◌, ◌||◌, eqb, if◌then◌else◌, Option, Some, None}
use Rattle.sense_codes.specs.declared.Sense.{Sense}
use Rattle.rig_api.specs.declared.rig.Outcome.{Outcome}
use Rattle.nvme_front.specs.declared.completion.Completion.{Completion}
use Rattle.sense_codes.specs.declared.codes.TheConstants.{ABORTED_COMMAND, PROTECTION, MEDIUM_ERROR, UNRECOVERED_READ, WRITE_ERROR, ILLEGAL_REQUEST, OUT_OF_RANGE}

-- The completions of the ends of a SCSI command (NVM Express Base Specification, Status Field).

abbrev pub success : Completion
success = record { sct = 0; sc = 0 }

-- Internal Error: every end that has no completion of its own
abbrev pub internal : Completion
internal = record { sct = 0; sc = 0x06 }

-- LBA Out of Range
abbrev pub out_of_range : Completion
out_of_range = record { sct = 0; sc = 0x80 }

-- Write Fault, Unrecovered Read Error
abbrev pub write_fault : Completion
write_fault = record { sct = 2; sc = 0x80 }

abbrev pub read_error : Completion
read_error = record { sct = 2; sc = 0x81 }

-- End-to-end Guard, Application Tag and Reference Tag Check Error
abbrev pub guard_error : Completion
guard_error = record { sct = 2; sc = 0x82 }

abbrev pub app_error : Completion
app_error = record { sct = 2; sc = 0x83 }

abbrev pub ref_error : Completion
ref_error = record { sct = 2; sc = 0x84 }

-- the sense has this key, this additional sense code and this qualifier
abbrev pub says : Sense → (key asc ascq : ℕ) → Bool
says s key asc ascq = eqb s.key key && (eqb s.asc asc && eqb s.ascq ascq)

-- what the target found (ABORTED COMMAND), an error of the medium (MEDIUM ERROR), an address outside the unit (ILLEGAL REQUEST), or anything else
abbrev pub by_sense : Sense → Completion
by_sense s =
    if says s ABORTED_COMMAND PROTECTION 1 then guard_error
    else (if says s ABORTED_COMMAND PROTECTION 2 then app_error
    else (if says s ABORTED_COMMAND PROTECTION 3 then ref_error
    else (if says s MEDIUM_ERROR UNRECOVERED_READ 0 then read_error
    else (if says s MEDIUM_ERROR WRITE_ERROR 0 then write_fault
    else (if says s ILLEGAL_REQUEST OUT_OF_RANGE 0 then out_of_range
    else internal)))))

abbrev pub by_end : Option Sense → Completion
by_end None = internal
by_end (Some s) = by_sense s

-- the completion of a command of n blocks by its outcome: success exactly where all blocks are done
abbrev pub completed : (n : ℕ) → Outcome → Completion
completed n o = if eqb o.done n then success else by_end o.sense

abbrev pub same : Completion → Completion → Bool
same a b = eqb a.sct b.sct && eqb a.sc b.sc

abbrev pub is_success : Completion → Bool
is_success c = same c success

abbrev pub is_internal : Completion → Bool
is_internal c = same c internal

-- Write Fault or Unrecovered Read Error
abbrev pub is_of_medium : Completion → Bool
is_of_medium c = same c write_fault || same c read_error
