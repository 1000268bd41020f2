use Rattle.std.specs.Prelude.{ℕ, ◌+◌, ◌-◌, Bool, true, false, ◌&&◌, eqb, leb, if◌then◌else◌, List, [], ◌∷◌, slice_index, ℤ, pos, Option, Some, None, unwrap_or, bit_xor, ◌++◌, take, drop}
use Rattle.std.specs.List.{list_any}
use Rattle.fault_schedule.specs.declared.Label.{Label}
use Rattle.fault_schedule.specs.declared.fault.Crossing.{Crossing}
use Rattle.fault_schedule.specs.declared.fault.Crossing.TheVariants.{HostToAdapter, AdapterToTarget, TargetToMedium, MediumToTarget, TargetToAdapter, AdapterToHost}
use Rattle.fault_schedule.specs.declared.fault.FaultKind.{FaultKind}
use Rattle.fault_schedule.specs.declared.fault.FaultKind.TheVariants.{Flip, Shift, Keep, Fail}
use Rattle.fault_schedule.specs.declared.fault.FaultLine.{FaultLine}

-- The two crossings are one.
abbrev pub is_same : Crossing → Crossing → Bool
is_same HostToAdapter HostToAdapter = true
is_same AdapterToTarget AdapterToTarget = true
is_same TargetToMedium TargetToMedium = true
is_same MediumToTarget MediumToTarget = true
is_same TargetToAdapter TargetToAdapter = true
is_same AdapterToHost AdapterToHost = true
is_same _ _ = false

-- The line is of the block of this label, at this crossing.
abbrev pub is_line_of : FaultLine → Crossing → Label → Bool
is_line_of line at label = is_same line.at at && (eqb line.op label.op && eqb line.k label.k)

-- of bytes that stand from place off on, the one at place i, and 0 before and after them
abbrev pub byte_at : ℕ → List ℕ → ℕ → ℕ
byte_at off bytes i = if leb off i then slice_index bytes (i - off) else 0

-- the byte that a fault names for place i: 0 where it names none
abbrev pub flip_at : FaultKind → ℕ → ℕ
flip_at (Flip off bytes) i = byte_at off bytes i
flip_at (Shift by) i = 0
flip_at (Keep bytes) i = 0
flip_at Fail i = 0

-- the byte that a line names for place i of the block of this label at this crossing
abbrev pub named_by : FaultLine → Crossing → Label → ℕ → ℕ
named_by line at label i = if is_line_of line at label then flip_at line.kind i else 0

-- all bytes that the lines name for that place, xored
abbrev pub named : List FaultLine → Crossing → Label → ℕ → ℕ
named [] at label i = 0
named (line ∷ lines) at label i = bit_xor (named_by line at label i) (named lines at label i)

-- the bytes from place i on, each xored with what is named for its place
abbrev pub xored_from : (ℕ → ℕ) → ℕ → List ℕ → List ℕ
xored_from name i [] = []
xored_from name i (byte ∷ bytes) = bit_xor byte (name i) ∷ xored_from name (i + 1) bytes

-- the block that crossed: each byte is xored with all bytes that the lines name for its place
abbrev pub altered : List FaultLine → Crossing → Label → List ℕ → List ℕ
altered lines at label block = xored_from (named lines at label) 0 block

-- what a shift moves an address by
abbrev pub moved_by : FaultKind → Option ℤ
moved_by (Flip off bytes) = None
moved_by (Shift by) = Some by
moved_by (Keep bytes) = None
moved_by Fail = None

-- what a line moves the address of this op by, at this crossing
abbrev pub shift_by : FaultLine → Crossing → ℕ → Option ℤ
shift_by line at op = if is_same line.at at && eqb line.op op then moved_by line.kind else None

-- what the first shift of this op and crossing moves the address by, and 0 where there is none
abbrev pub shift_of : List FaultLine → Crossing → ℕ → ℤ
shift_of [] at op = pos 0
shift_of (line ∷ lines) at op = unwrap_or (shift_by line at op) (shift_of lines at op)

-- how many bytes of a frame a fault lets the medium store
abbrev pub kept_bytes : FaultKind → Option ℕ
kept_bytes (Flip off bytes) = None
kept_bytes (Shift by) = None
kept_bytes (Keep bytes) = Some bytes
kept_bytes Fail = None

-- how many of the block of this label a line lets it store
abbrev pub keep_by : FaultLine → Label → Option ℕ
keep_by line label = if is_line_of line TargetToMedium label then kept_bytes line.kind else None

abbrev pub keep_or : Option ℕ → Option ℕ → Option ℕ
keep_or None other = other
keep_or (Some n) other = Some n

-- how many the first such line of this block says, where there is one
abbrev pub keep_of : List FaultLine → Label → Option ℕ
keep_of [] label = None
keep_of (line ∷ lines) label = keep_or (keep_by line label) (keep_of lines label)

-- what is left of a stored block when so many bytes of a frame are stored over it
abbrev pub kept_by : Option ℕ → (old frame : List ℕ) → List ℕ
kept_by None old frame = frame
kept_by (Some n) old frame = take n frame ++ drop n old

-- what stands in the place of the block of this label when its frame is stored over an old one
abbrev pub kept : List FaultLine → Label → (old frame : List ℕ) → List ℕ
kept lines label old frame = kept_by (keep_of lines label) old frame

-- a fault of the medium itself, at which a command ends
abbrev pub is_fail : FaultKind → Bool
is_fail (Flip off bytes) = false
is_fail (Shift by) = false
is_fail (Keep bytes) = false
is_fail Fail = true

-- The line says that the medium can't store or send the block of this label, whatever its crossing.
abbrev pub fails_by : FaultLine → Label → Bool
fails_by line label = is_fail line.kind && (eqb line.op label.op && eqb line.k label.k)

-- One of the lines does.
abbrev pub fails_of : List FaultLine → Label → Bool
fails_of lines label = list_any (λ line. fails_by line label) lines

-- Some line says so of some block.
abbrev pub has_fail : List FaultLine → Bool
has_fail lines = list_any (λ line. is_fail line.kind) lines
