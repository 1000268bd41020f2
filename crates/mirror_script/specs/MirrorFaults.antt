use Rattle.std.specs.Prelude.{ℕ, ◌+◌, ◌*◌, ◌/◌, ◌%◌, Bool, true, false, not, ◌||◌, ◌&&◌, eqb, nat_lt, if◌then◌else◌, List, ◌∷◌, length, drop, slice_get, Option, Some, None, [], ◌++◌}
use Rattle.fault_schedule.specs.declared.fault.FaultKind.{FaultKind}
use Rattle.fault_schedule.specs.declared.fault.FaultKind.TheVariants.{Flip as FlipKind, Shift as ShiftKind, Keep as KeepKind, Fail as FailKind}
use Rattle.fault_schedule.specs.declared.fault.FaultLine.{FaultLine}
use Rattle.pi_tuple.specs.declared.checks.PiType.{PiType}
use Rattle.pi_tuple.specs.declared.checks.PiType.TheVariants.{Zero as TypeZero, One as TypeOne, Two as TypeTwo, Three as TypeThree}
use Rattle.block_path.specs.declared.mode.Mode.{Mode}
use Rattle.stack_ops.specs.declared.op.Op.{Op}
use Rattle.stack_ops.specs.declared.op.Op.TheVariants.{Fetch, FetchPi, Fill, Overwrite, Put, Seal, Show, Wait, Write, WritePi}
use Rattle.volume_table.specs.declared.device.DeviceInfo.{DeviceInfo}
use Rattle.volume_table.specs.Places.{volume_len}
use Rattle.volume_table.specs.Tables.{Table}
use Rattle.script_lines.specs.declared.kind.ScriptKind.{ScriptKind}
use Rattle.script_lines.specs.declared.kind.ScriptKind.TheVariants.{BadFault, BadRange, NoIntegrity, OutOfPlace}
use Rattle.script_text.specs.declared.fault.ScriptFault.{ScriptFault}
use Rattle.script_text.specs.declared.script.Script.{Script}
use Rattle.script_text.specs.Bindings.{at_line, is_alterable, is_bad_change, is_bad_fail, is_bad_keep, or_else, request_at}
use Rattle.rig_api.specs.Frames.{stored_size}

-- What a script may not do on a mirror: a volume of two legs of equal length.

-- Tuples of this type name their block.
abbrev pub names_blocks : PiType → Bool
names_blocks TypeZero = false
names_blocks TypeOne = true
names_blocks TypeTwo = true
names_blocks TypeThree = false

-- A mirror passes tuples all the way.
abbrev pub mode_fault : Mode → PiType → Option ScriptFault
mode_fault mode ty = if mode.dix && (mode.dif && names_blocks ty) then None else Some (record { line = 0; kind = NoIntegrity })

abbrev pub length_fault : ℕ → Option ScriptFault
length_fault len = if eqb (len % 2) 0 then None else Some (record { line = 0; kind = BadRange })

-- A request of n blocks has 2 n on both legs.
abbrev pub is_past : (k : ℕ) → Option (ℕ × ℕ) → Bool
is_past k None = true
is_past k (Some request) = not (nat_lt k (2 * request.1))

-- A mirror has no shifts. What a leg's medium loses, tears or fails is judged as that of any volume.
abbrev pub is_bad_kind : (stored : ℕ) → (earlier : List FaultLine) → FaultLine → FaultKind → Bool
is_bad_kind stored earlier f (FlipKind off bytes) = false
is_bad_kind stored earlier f (ShiftKind by) = true
is_bad_kind stored earlier f (KeepKind bytes) = is_bad_keep stored earlier f bytes
is_bad_kind stored earlier f FailKind = is_bad_fail earlier f

-- It has faults with protect field 001b alone. So many bytes are stored of a block.
abbrev pub is_bad_line : (protect stored : ℕ) → List Op → (earlier : List FaultLine) → FaultLine → Bool
is_bad_line protect stored ops earlier f = not (eqb protect 1) || (is_past f.k (request_at ops f.op) || is_bad_kind stored earlier f f.kind)

-- the first fault of the fault lines behind these
abbrev pub faults_fault : (protect stored : ℕ) → List Op → (earlier faults : List FaultLine) → (lines : List ℕ) → Option ScriptFault
faults_fault protect stored ops earlier (f ∷ faults) (line ∷ lines) =
    if is_bad_line protect stored ops earlier f then Some (record { line = line; kind = BadFault }) else faults_fault protect stored ops (earlier ++ (f ∷ [])) faults lines
faults_fault protect stored ops earlier _ _ = None

-- n blocks from v on, of a mirror of so many
abbrev pub range_fault : (half v n : ℕ) → Option ScriptKind
range_fault half v n = if nat_lt 1024 n || nat_lt half (v + n) then Some BadRange else None

-- what is wrong with an op on the mirror
abbrev pub op_fault : (protect : ℕ) → Table → List DeviceInfo → (size : ℕ) → Op → Option ScriptKind
op_fault protect t devices size (Fill seg byte) = None
op_fault protect t devices size (Put page off bytes) = None
op_fault protect t devices size (Show seg) = None
op_fault protect t devices size (Seal n body tuples app rtag) = Some OutOfPlace
op_fault protect t devices size (Write v n body app) = range_fault (volume_len t.entries / 2) v n
op_fault protect t devices size (Fetch v n body) = range_fault (volume_len t.entries / 2) v n
op_fault protect t devices size (WritePi v n body tuples) = Some OutOfPlace
op_fault protect t devices size (FetchPi v n body tuples) = Some OutOfPlace
op_fault protect t devices size (Overwrite dev lba change) =
    if not (eqb protect 1) || (is_bad_change t devices size change || not (is_alterable t.ty size lba (slice_get devices dev))) then Some BadFault else None
op_fault protect t devices size Wait = None

abbrev pub ops_fault : (protect : ℕ) → Table → List DeviceInfo → (size : ℕ) → List Op → (lines : List ℕ) → Option ScriptFault
ops_fault protect t devices size (op ∷ ops) (line ∷ lines) = at_line line (op_fault protect t devices size op) (ops_fault protect t devices size ops lines)
ops_fault protect t devices size _ _ = None

-- the first fault of a script on a mirror: the mode, the length, then each fault line, then each op
abbrev pub mirror_fault : Script → Table → List DeviceInfo → Option ScriptFault
mirror_fault s t devices =
    or_else (mode_fault s.mode t.ty)
    (or_else (length_fault (volume_len t.entries))
    (or_else (faults_fault s.mode.protect (stored_size t.ty s.block) s.ops [] s.faults s.lines) (ops_fault s.mode.protect t devices s.block s.ops (drop (length s.faults) s.lines))))
