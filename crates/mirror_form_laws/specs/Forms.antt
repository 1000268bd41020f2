use Rattle.std.specs.Prelude.{ℕ, ◌+◌, ◌-◌, Bool, not, ◌&&◌, ◌||◌, eqb, nat_lt, if◌then◌else◌, List}
use Rattle.std.specs.List.{list_all, list_any}
use Rattle.pi_guard.specs.declared.GuardKind.{GuardKind}
use Rattle.fault_schedule.specs.Altered.{is_fail, is_same}
use Rattle.fault_schedule.specs.declared.fault.Crossing.TheVariants.{MediumToTarget, TargetToMedium}
use Rattle.fault_schedule.specs.declared.fault.FaultLine.{FaultLine}
use Rattle.stack_ops.specs.declared.op.Op.{Op}
use Rattle.stack_ops.specs.Ops.{first_virt, is_overwrite}
use Rattle.run_premises.specs.Forms.{is_shown_line, op_of}
use Rattle.mirror_laws.specs.Mirror.{blocks_in}

-- Which scheduled faults on a mirror tuples can show, or the medium tells of itself, and whether they leave each block a leg, told by their lines, the ops and the mirror's length alone.

-- the virtual block of place k of a request: behind its own blocks, on leg 0, stand those on leg 1
abbrev pub virt_in : (half : ℕ) → Op → (k : ℕ) → ℕ
virt_in half op k = if nat_lt k (blocks_in op) then first_virt op + k else half + (first_virt op + (k - blocks_in op))

-- and that of a line
abbrev pub virt_on_legs : (half : ℕ) → List Op → FaultLine → ℕ
virt_on_legs half ops line = virt_in half (op_of ops line.op) line.k

-- ---- each fault is shown

-- The line alters the virtual block on its way to the medium.
abbrev pub stores_on_legs : (half : ℕ) → List Op → (v : ℕ) → FaultLine → Bool
stores_on_legs half ops v line = is_same line.at TargetToMedium && eqb (virt_on_legs half ops line) v

-- So does one of these, in any op.
abbrev pub is_altered_on_legs : (half : ℕ) → List Op → List FaultLine → (v : ℕ) → Bool
is_altered_on_legs half ops faults v = list_any (stores_on_legs half ops v) faults

-- A flip on the way from the medium may undo one on the way there.
abbrev pub may_undo_on_legs : (half : ℕ) → List Op → List FaultLine → FaultLine → Bool
may_undo_on_legs half ops faults line = is_same line.at MediumToTarget && is_altered_on_legs half ops faults (virt_on_legs half ops line)

-- The line is a flip that is shown, and undoes no other on its leg. Or the medium fails its block, so that the leg says so.
abbrev pub is_good_on_legs : GuardKind → (size half : ℕ) → List FaultLine → List Op → FaultLine → Bool
is_good_on_legs kind size half faults ops line = is_fail line.kind || (is_shown_line kind size faults line && not (may_undo_on_legs half ops faults line))

-- Each line is a flip that is shown, or a block that the medium fails; no flip can undo another, and no op overwrites a stored block. A block that is lost or torn, and a shift, are outside.
abbrev pub shows_on_legs : GuardKind → (size half : ℕ) → List FaultLine → List Op → Bool
shows_on_legs kind size half faults ops = list_all (is_good_on_legs kind size half faults ops) faults && not (list_any is_overwrite ops)

-- ---- each block has a leg

-- The line names the virtual block, at any crossing.
abbrev pub names_virt : (half : ℕ) → List Op → (v : ℕ) → FaultLine → Bool
names_virt half ops v line = eqb (virt_on_legs half ops line) v

-- So does one of these.
abbrev pub is_named : (half : ℕ) → List Op → List FaultLine → (v : ℕ) → Bool
is_named half ops faults v = list_any (names_virt half ops v) faults

-- The line names a block on leg 1, or one that no line names on leg 1.
abbrev pub spares_other_leg : (half : ℕ) → List Op → List FaultLine → FaultLine → Bool
spares_other_leg half ops faults line = not (nat_lt (virt_on_legs half ops line) half && is_named half ops faults (half + virt_on_legs half ops line))

-- No block of the mirror is named on both legs.
abbrev pub leaves_a_leg : (half : ℕ) → List FaultLine → List Op → Bool
leaves_a_leg half faults ops = list_all (spares_other_leg half ops faults) faults
