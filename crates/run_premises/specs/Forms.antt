use Rattle.std.specs.Prelude.{ℕ, ◌+◌, ◌-◌, Bool, true, false, not, ◌&&◌, eqb, if◌then◌else◌, List, [], ◌∷◌, get_or, take, drop, replicate, is_some}
use Rattle.std.specs.List.{list_all, list_any, prefix_len}
use Rattle.pi_guard.specs.Guards.{crc}
use Rattle.pi_guard.specs.declared.GuardKind.{GuardKind}
use Rattle.pi_guard.specs.declared.GuardKind.TheVariants.{Crc, Ip}
use Rattle.fault_schedule.specs.Altered.{altered, is_same, moved_by}
use Rattle.fault_schedule.specs.declared.Label.{Label}
use Rattle.fault_schedule.specs.declared.fault.Crossing.{Crossing}
use Rattle.fault_schedule.specs.declared.fault.Crossing.TheVariants.{AdapterToHost, AdapterToTarget, HostToAdapter, MediumToTarget, TargetToAdapter, TargetToMedium}
use Rattle.fault_schedule.specs.declared.fault.FaultKind.{FaultKind}
use Rattle.fault_schedule.specs.declared.fault.FaultKind.TheVariants.{Flip, Shift, Keep, Fail}
use Rattle.fault_schedule.specs.declared.fault.FaultLine.{FaultLine}
use Rattle.stack_ops.specs.declared.op.Op.{Op}
use Rattle.stack_ops.specs.declared.op.Op.TheVariants.{Fetch, FetchPi, Fill, Overwrite, Put, Seal, Show, Wait, Write, WritePi}
use Rattle.stack_ops.specs.Ops.{first_virt, is_overwrite}
use Rattle.run_laws.specs.Passed.{is_flip}
use Rattle.pi_tuple.specs.declared.TheConstants.{TUPLE}

-- Which scheduled faults tuples can show, told by their lines and the ops alone: in type 1 with tuples that are passed and protect field 001b.

-- ---- what the lines of one block do at one crossing

-- what becomes of a frame of zeros: each byte is all that the lines name for its place
abbrev pub mask_of : (size : ℕ) → List FaultLine → Crossing → Label → List ℕ
mask_of size faults at label = altered faults at label (replicate (size + TUPLE) 0)

-- the guard that a frame has at a crossing: the host's on its side of the adapter, else the CRC
abbrev pub kind_at : GuardKind → Crossing → GuardKind
kind_at kind HostToAdapter = kind
kind_at kind AdapterToTarget = Crc
kind_at kind TargetToMedium = Crc
kind_at kind MediumToTarget = Crc
kind_at kind TargetToAdapter = Crc
kind_at kind AdapterToHost = kind

abbrev pub is_none : ℕ → Bool
is_none byte = eqb byte 0

-- Some byte isn't 0, and each that isn't lies within two neighbouring ones, which aren't both FFh.
abbrev pub is_near : List ℕ → Bool
is_near [] = false
is_near (x ∷ []) = not (is_none x)
is_near (x ∷ y ∷ rest) = if is_none x then is_near (y ∷ rest) else not (eqb x 255 && eqb y 255) && list_all is_none rest

-- The guard shows whatever data and guard these bytes are xored onto: the CRC exactly where their own CRC isn't 0; the Internet checksum where they are near, and where they aren't it hangs on the data.
abbrev pub is_seen : GuardKind → List ℕ → Bool
is_seen Crc mask = not (eqb (crc mask) 0)
is_seen Ip mask = is_near mask

-- Application tag and reference tag stay, and the guard shows what is altered.
abbrev pub is_shown : (size : ℕ) → GuardKind → List ℕ → Bool
is_shown size kind mask = list_all is_none (drop (size + 2) mask) && is_seen kind (take (size + 2) mask)

abbrev pub label_of : FaultLine → Label
label_of line = record { op = line.op; k = line.k }

-- The line is a flip; and all lines of its block at its crossing together are shown.
abbrev pub is_shown_line : GuardKind → (size : ℕ) → List FaultLine → FaultLine → Bool
is_shown_line kind size faults line = is_flip line.kind && is_shown size (kind_at kind line.at) (mask_of size faults line.at (label_of line))

-- ---- whose block it is

-- the op of this number; ops are counted from 1
abbrev pub op_of : List Op → ℕ → Op
op_of ops number = get_or ops (number - 1) Wait

-- the virtual block of a line
abbrev pub virt_of : List Op → FaultLine → ℕ
virt_of ops line = first_virt (op_of ops line.op) + line.k

-- The application brings the tuples.
abbrev pub brings_tuples : Op → Bool
brings_tuples (Fill seg byte) = false
brings_tuples (Put page off bytes) = false
brings_tuples (Show seg) = false
brings_tuples (Seal n body tuples app rtag) = false
brings_tuples (Write v n body app) = false
brings_tuples (Fetch v n body) = false
brings_tuples (WritePi v n body tuples) = true
brings_tuples (FetchPi v n body tuples) = false
brings_tuples (Overwrite dev lba change) = false
brings_tuples Wait = false

-- A tuple that an application brings may be wrong, and a flip before the first check may make it right.
abbrev pub may_mend : List Op → FaultLine → Bool
may_mend ops line = is_same line.at HostToAdapter && brings_tuples (op_of ops line.op)

-- The line alters the virtual block on its way to the medium.
abbrev pub stores : List Op → (v : ℕ) → FaultLine → Bool
stores ops v line = is_same line.at TargetToMedium && eqb (virt_of ops line) v

-- So does one of these, in any op.
abbrev pub is_stored_altered : List Op → List FaultLine → (v : ℕ) → Bool
is_stored_altered ops faults v = list_any (stores ops v) faults

-- A flip on the way from the medium may undo one on the way there.
abbrev pub may_undo : List Op → List FaultLine → FaultLine → Bool
may_undo ops faults line = is_same line.at MediumToTarget && is_stored_altered ops faults (virt_of ops line)

-- ---- the form

abbrev pub is_good_line : GuardKind → (size : ℕ) → List FaultLine → List Op → FaultLine → Bool
is_good_line kind size faults ops line = is_shown_line kind size faults line && (not (may_mend ops line) && not (may_undo ops faults line))

-- Each line is a flip that is shown, none can mend a tuple or undo another, and no op overwrites a stored block.
abbrev pub shows_by_form : GuardKind → (size : ℕ) → List FaultLine → List Op → Bool
shows_by_form kind size faults ops = list_all (is_good_line kind size faults ops) faults && not (list_any is_overwrite ops)

-- how many lines stand before the first that isn't good
abbrev pub good_lines : GuardKind → (size : ℕ) → List FaultLine → List Op → ℕ
good_lines kind size faults ops = prefix_len (is_good_line kind size faults ops) faults

-- ---- the form of runs in which the disk fails, loses and misdirects blocks too

-- The line leads the blocks of this op elsewhere, when they are stored.
abbrev pub misdirects : (op : ℕ) → FaultLine → Bool
misdirects op line = is_same line.at TargetToMedium && (eqb line.op op && is_some (moved_by line.kind))

-- A flip on the way to the medium, of a block that is stored elsewhere.
abbrev pub is_led_away : List FaultLine → FaultLine → Bool
is_led_away faults line = is_same line.at TargetToMedium && list_any (misdirects line.op) faults

-- A flip is good that is so there, and isn't of such a block. A block may be lost, be failed, or be stored elsewhere; none is torn, and no other address is shifted.
abbrev pub is_known_kind : GuardKind → (size : ℕ) → List FaultLine → List Op → FaultLine → FaultKind → Bool
is_known_kind kind size faults ops line (Flip off bytes) = is_good_line kind size faults ops line && not (is_led_away faults line)
is_known_kind kind size faults ops line (Shift by) = is_same line.at TargetToMedium
is_known_kind kind size faults ops line (Keep bytes) = eqb bytes 0
is_known_kind kind size faults ops line Fail = true

abbrev pub is_known_line : GuardKind → (size : ℕ) → List FaultLine → List Op → FaultLine → Bool
is_known_line kind size faults ops line = is_known_kind kind size faults ops line line.kind

-- Each line is of these, and no op overwrites a stored block.
abbrev pub accounts_by_form : GuardKind → (size : ℕ) → List FaultLine → List Op → Bool
accounts_by_form kind size faults ops = list_all (is_known_line kind size faults ops) faults && not (list_any is_overwrite ops)

-- how many lines stand before the first that isn't of these
abbrev pub known_lines : GuardKind → (size : ℕ) → List FaultLine → List Op → ℕ
known_lines kind size faults ops = prefix_len (is_known_line kind size faults ops) faults

-- ---- escapes

-- Neither a `write` with the application tag FFFFh nor a tuple that an application brings.
abbrev pub supplies_none : Op → Bool
supplies_none (Fill seg byte) = true
supplies_none (Put page off bytes) = true
supplies_none (Show seg) = true
supplies_none (Seal n body tuples app rtag) = true
supplies_none (Write v n body app) = not (eqb app 0xFFFF)
supplies_none (Fetch v n body) = true
supplies_none (WritePi v n body tuples) = false
supplies_none (FetchPi v n body tuples) = true
supplies_none (Overwrite dev lba change) = true
supplies_none Wait = true

-- No op supplies an escape, whatever stands in the pages.
abbrev pub escapes_none : List Op → Bool
escapes_none ops = list_all supplies_none ops
