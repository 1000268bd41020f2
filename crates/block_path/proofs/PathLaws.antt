-- A crossing keeps the length of a frame, and a check names itself in its sense.
use Rattle.std.proofs.Common.{List, Option, ℕ, length, ◌≡◌, None, refl, Some, [], ◌∷◌, ap, suc, false, true, sym}
use Rattle.fault_schedule.specs.declared.fault.FaultLine.{FaultLine}
use Rattle.fault_schedule.specs.declared.Label.{Label}
use Rattle.fault_schedule.specs.declared.fault.Crossing.{Crossing}
use Rattle.rig_api.specs.Passing.{crossed}
use Rattle.block_path.proofs.Sizes.{altered_length}
use Rattle.pi_tuple.specs.declared.checks.Check.{Check}
use Rattle.block_path.specs.Senses.{why_ended}
use Rattle.rig_api.specs.Target.{check_sense}
use Rattle.bio_core.specs.declared.fate.Why.TheVariants.{Target}
use Rattle.pi_tuple.specs.declared.checks.Check.TheVariants.{Guard, AppTag, RefTag}
use Rattle.block_path.specs.Acts.{Act, State, act, tell}
use Rattle.block_path.specs.Blocks.{ActAnswer}
use Rattle.block_path.specs.Serial.{plain_tells}
use Rattle.pi_tuple.specs.declared.checks.PiType.{PiType}
use Rattle.pi_tuple.specs.Finds.{is_zero}
use Rattle.block_path.specs.Routes.{host_type, is_crc}
use Rattle.pi_tuple.specs.declared.checks.PiType.TheVariants.{Zero, One, Two, Three}
use Rattle.pi_guard.specs.declared.GuardKind.{GuardKind}
use Rattle.pi_guard.specs.Guards.{guard_of, crc}
use Rattle.pi_guard.specs.declared.GuardKind.TheVariants.{Crc, Ip}
use Rattle.fault_schedule.proofs.Passed.{never}

pub crossed_length : (faults : List FaultLine) (label : Option Label) (at : Crossing) (frame : List ℕ) → length (crossed faults label at frame) ≡ length frame
crossed_length faults None at frame = refl
crossed_length faults (Some label) at frame = altered_length faults at label frame

pub check_named : (c : Check) (l : ℕ) → why_ended (Some (check_sense c l)) ≡ Target c
check_named Guard l = refl
check_named AppTag l = refl
check_named RefTag l = refl

pub long_tells : (acts : List (Act ActAnswer)) (s : State) → length (plain_tells act tell acts s) ≡ length acts
long_tells [] s = refl
long_tells (a ∷ acts) s = ap suc (long_tells acts (act a s))

pub never_zero : (ty : PiType) → is_zero (host_type ty) ≡ false
never_zero Zero = refl
never_zero One = refl
never_zero Two = refl
never_zero Three = refl

pub as_crc : (kind : GuardKind) (body : List ℕ) → is_crc kind ≡ true → guard_of kind body ≡ crc body
as_crc Crc body h = refl
as_crc Ip body h = never h

pub as_ip : (kind : GuardKind) (body : List ℕ) → is_crc kind ≡ false → guard_of Ip body ≡ guard_of kind body
as_ip Crc body h = never (sym h)
as_ip Ip body h = refl
