use Rattle.std.specs.Prelude.{ℕ, zero, suc, ◌+◌, ℤ, pos, negsuc, Bool, true, false, not, ◌||◌, ◌&&◌, eqb, nat_le, nat_lt, if◌then◌else◌, List, [], ◌∷◌, ◌++◌, length, drop, slice_get, Option, Some, None}
use Rattle.std.specs.List.{list_any}
use Rattle.fault_schedule.specs.declared.fault.Crossing.{Crossing}
use Rattle.fault_schedule.specs.declared.fault.Crossing.TheVariants.{MediumToTarget, TargetToMedium}
use Rattle.fault_schedule.specs.declared.fault.FaultKind.{FaultKind}
use Rattle.fault_schedule.specs.declared.fault.FaultKind.TheVariants.{Flip as FlipKind, Shift as ShiftKind, Keep as KeepKind, Fail as FailKind}
use Rattle.fault_schedule.specs.declared.fault.FaultLine.{FaultLine}
use Rattle.pi_tuple.specs.declared.checks.PiType.{PiType}
use Rattle.pi_tuple.specs.declared.checks.PiType.TheVariants.{Zero as TypeZero, One as TypeOne, Two as TypeTwo, Three as TypeThree}
use Rattle.rig_api.specs.Frames.{stored_size}
use Rattle.rig_api.specs.declared.change.Change.{Change}
use Rattle.rig_api.specs.declared.change.Change.TheVariants.{Flip as FlipChange, Copy as CopyChange}
use Rattle.stack_ops.specs.declared.op.Op.{Op}
use Rattle.stack_ops.specs.declared.op.Op.TheVariants.{Write, Fetch, WritePi, FetchPi, Overwrite}
use Rattle.volume_table.specs.declared.device.DeviceInfo.{DeviceInfo}
use Rattle.volume_table.specs.Places.{place_in, volume_len}
use Rattle.volume_table.specs.Tables.{Table}
use Rattle.script_lines.specs.declared.kind.ScriptKind.{ScriptKind}
use Rattle.script_lines.specs.declared.kind.ScriptKind.TheVariants.{BadRange, BadFault, NoIntegrity}
use Rattle.script_text.specs.declared.fault.ScriptFault.{ScriptFault}
use Rattle.script_text.specs.declared.script.Script.{Script}
use Rattle.script_text.specs.Crossings.{is_read}

-- What a script may not do over a volume of devices.

abbrev pub has_no_tuples : PiType → Bool
has_no_tuples TypeZero = true
has_no_tuples _ = false

abbrev pub is_first_type : PiType → Bool
is_first_type TypeOne = true
is_first_type _ = false

abbrev pub is_type : (a b : PiType) → Bool
is_type TypeZero TypeZero = true
is_type TypeOne TypeOne = true
is_type TypeTwo TypeTwo = true
is_type TypeThree TypeThree = true
is_type _ _ = false

-- The address that is moved by so many blocks lies on the device.
abbrev pub is_on : DeviceInfo → ℕ → ℤ → Bool
is_on d lba (pos n) = nat_le d.first (lba + n) && nat_lt (lba + n) (d.first + d.blocks)
is_on d lba (negsuc n) = nat_le (d.first + suc n) lba && nat_lt lba (d.first + d.blocks + suc n)

-- the first block and the number of blocks of a request
abbrev pub request_of : Op → Option (ℕ × ℕ)
request_of (Write v n body app) = Some (v, n)
request_of (Fetch v n body) = Some (v, n)
request_of (WritePi v n body tuples) = Some (v, n)
request_of (FetchPi v n body tuples) = Some (v, n)
request_of _ = None

abbrev pub is_on_known : ℕ → ℤ → Option DeviceInfo → Bool
is_on_known lba by None = false
is_on_known lba by (Some d) = is_on d lba by

-- A block of the volume, moved by so many blocks, lies on its device.
abbrev pub block_stays : Table → List DeviceInfo → ℤ → ℕ → Bool
block_stays t devices by v = is_on_known (place_in t.entries v).1 by (slice_get devices (place_in t.entries v).0)

-- So do n of them from v on. Of a block that the volume hasn't, nothing is asked.

abbrev pub blocks_stay : Table → List DeviceInfo → ℤ → (v n : ℕ) → Bool
blocks_stay t devices by v zero = true
blocks_stay t devices by v (suc n) = if nat_le (volume_len t.entries) v then true else (if block_stays t devices by v then blocks_stay t devices by (v + 1) n else false)

abbrev pub is_shift : FaultKind → Bool
is_shift (FlipKind off bytes) = false
is_shift (ShiftKind by) = true
is_shift (KeepKind bytes) = false
is_shift FailKind = false

-- The line shifts the op of this number.
abbrev pub shifts : ℕ → FaultLine → Bool
shifts op f = eqb op f.op && is_shift f.kind

abbrev pub is_at_medium : Crossing → Bool
is_at_medium TargetToMedium = true
is_at_medium _ = false

-- The medium itself fails: it doesn't keep all of a write, or can't store or send a block. No version before 3 can say so.
abbrev pub is_of_medium : FaultKind → Bool
is_of_medium (FlipKind off bytes) = false
is_of_medium (ShiftKind by) = false
is_of_medium (KeepKind bytes) = true
is_of_medium FailKind = true

-- A line that no version before 3 can say: so, or it moves the address at which a write is stored.
abbrev pub is_third_line : FaultLine → Bool
is_third_line f = is_of_medium f.kind || (is_shift f.kind && is_at_medium f.at)

-- A shift of fetched blocks, of an op that fetches none.
abbrev pub is_misplaced : (reads : Bool) → Crossing → Bool
is_misplaced reads MediumToTarget = not reads
is_misplaced reads _ = false

-- The line says that the medium loses, tears or fails this block.
abbrev pub names_block : (op k : ℕ) → FaultLine → Bool
names_block op k f = eqb op f.op && (eqb k f.k && is_of_medium f.kind)

-- A lost or torn block is one of a write, of which the medium stores less than all, and that no earlier line names.
abbrev pub is_bad_keep : (stored : ℕ) → (earlier : List FaultLine) → FaultLine → (bytes : ℕ) → Bool
is_bad_keep stored earlier f bytes = not (is_at_medium f.at) || (nat_le stored bytes || list_any (names_block f.op f.k) earlier)

-- A block that the medium fails, of a write or a read, is one that no earlier line names so.
abbrev pub is_bad_fail : (earlier : List FaultLine) → FaultLine → Bool
is_bad_fail earlier f = list_any (names_block f.op f.k) earlier

-- A shift needs tuples of type 1, isn't of fetched blocks where the op fetches none, comes once for an op, and keeps each block on its device.
abbrev pub is_bad_shift : Table → List DeviceInfo → (earlier : List FaultLine) → FaultLine → (reads : Bool) → ℕ × ℕ → (by : ℤ) → Bool
is_bad_shift t devices earlier f reads request by =
    not (is_first_type t.ty) || (is_misplaced reads f.at || (list_any (shifts f.op) earlier || not (blocks_stay t devices by request.0 request.1)))

-- behind these lines, in a script of blocks of this size
abbrev pub is_bad_kind : Table → List DeviceInfo → (size : ℕ) → (earlier : List FaultLine) → FaultLine → (reads : Bool) → ℕ × ℕ → FaultKind → Bool
is_bad_kind t devices size earlier f reads request (FlipKind off bytes) = false
is_bad_kind t devices size earlier f reads request (ShiftKind by) = is_bad_shift t devices earlier f reads request by
is_bad_kind t devices size earlier f reads request (KeepKind bytes) = is_bad_keep (stored_size t.ty size) earlier f bytes
is_bad_kind t devices size earlier f reads request FailKind = is_bad_fail earlier f

-- A fault line behind these is at fault on this request: there is none, or it hasn't the block, or the line's kind can't be.
abbrev pub is_bad_on : Table → List DeviceInfo → (size : ℕ) → (earlier : List FaultLine) → FaultLine → (reads : Bool) → Option (ℕ × ℕ) → Bool
is_bad_on t devices size earlier f reads None = true
is_bad_on t devices size earlier f reads (Some request) = not (nat_lt f.k request.1) || is_bad_kind t devices size earlier f reads request f.kind

abbrev pub request_by : Option Op → Option (ℕ × ℕ)
request_by None = None
request_by (Some op) = request_of op

-- the request that the op of this number is; ops are counted from 1
abbrev pub request_at : List Op → ℕ → Option (ℕ × ℕ)
request_at ops zero = None
request_at ops (suc n) = request_by (slice_get ops n)

-- the first fault of the fault lines behind these
abbrev pub faults_fault : Table → List DeviceInfo → (size : ℕ) → List Op → (earlier faults : List FaultLine) → (lines : List ℕ) → Option ScriptFault
faults_fault t devices size ops earlier (f ∷ faults) (line ∷ lines) =
    if is_bad_on t devices size earlier f (is_read ops f.op) (request_at ops f.op) then Some (record { line = line; kind = BadFault })
    else faults_fault t devices size ops (earlier ++ (f ∷ [])) faults lines
faults_fault t devices size ops earlier _ _ = None

-- A stored block can be altered: its device is there, of the volume's type and of the script's block size, and has the address.
abbrev pub is_alterable : PiType → (size lba : ℕ) → Option DeviceInfo → Bool
is_alterable ty size lba None = false
is_alterable ty size lba (Some d) = is_type d.ty ty && (eqb d.size size && is_on d lba (pos 0))

abbrev pub is_bad_change : Table → List DeviceInfo → ℕ → Change → Bool
is_bad_change t devices size (FlipChange off bytes) = false
is_bad_change t devices size (CopyChange dev lba) = not (is_alterable t.ty size lba (slice_get devices dev))

abbrev pub range_fault : Table → Option (ℕ × ℕ) → Option ScriptKind
range_fault t None = None
range_fault t (Some request) = if nat_lt (volume_len t.entries) (request.0 + request.1) then Some BadRange else None

-- what is wrong with an op over the volume
abbrev pub op_fault : Table → List DeviceInfo → ℕ → Op → Option ScriptKind
op_fault t devices size (Overwrite dev lba change) =
    if is_bad_change t devices size change || not (is_alterable t.ty size lba (slice_get devices dev)) then Some BadFault else None
op_fault t devices size op = range_fault t (request_of op)

abbrev pub at_line : ℕ → Option ScriptKind → Option ScriptFault → Option ScriptFault
at_line line None rest = rest
at_line line (Some kind) rest = Some (record { line = line; kind = kind })

abbrev pub ops_fault : Table → List DeviceInfo → ℕ → List Op → (lines : List ℕ) → Option ScriptFault
ops_fault t devices size (op ∷ ops) (line ∷ lines) = at_line line (op_fault t devices size op) (ops_fault t devices size ops lines)
ops_fault t devices size _ _ = None

abbrev pub or_else : Option ScriptFault → Option ScriptFault → Option ScriptFault
or_else None other = other
or_else (Some f) other = Some f

-- An application tag is expected where the devices have no tuples.
abbrev pub expect_fault : Script → PiType → Option ScriptFault
expect_fault s ty = if not (eqb s.mode.mask 0) && has_no_tuples ty then Some (record { line = s.expect_line; kind = NoIntegrity }) else None

-- the first fault of a script over a volume of these devices: the expected tag, then each fault line, then each op
abbrev pub binding_fault : Script → Table → List DeviceInfo → Option ScriptFault
binding_fault s t devices =
    or_else (expect_fault s t.ty)
    (or_else (faults_fault t devices s.block s.ops [] s.faults s.lines) (ops_fault t devices s.block s.ops (drop (length s.faults) s.lines)))
