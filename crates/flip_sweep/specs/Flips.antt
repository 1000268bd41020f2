-- Where a byte may be altered, and the script with that as its one fault.
use Rattle.std.specs.Prelude.{ℕ, zero, suc, ◌+◌, ◌≤◌, Bool, true, false, List, [], ◌∷◌, ◌++◌, Option, Some, None}
use Rattle.fault_schedule.specs.declared.fault.FaultKind.TheVariants.{Flip}
use Rattle.fault_schedule.specs.declared.fault.FaultLine.{FaultLine}
use Rattle.script_lines.specs.declared.kind.ScriptKind.TheVariants.{BadFault}
use Rattle.script_lines.specs.declared.line.Spot.{Spot}
use Rattle.script_lines.specs.declared.line.Spot.TheVariants.{Host, Wire, Medium}
use Rattle.script_text.specs.Bindings.{request_of}
use Rattle.script_text.specs.Crossings.{crossed}
use Rattle.script_text.specs.declared.fault.ScriptFault.{ScriptFault}
use Rattle.script_text.specs.declared.script.Script.{Script}
use Rattle.stack_ops.specs.declared.op.Op.{Op}
use Rattle.stack_ops.specs.Ops.{is_overwrite}
use Rattle.flip_sweep.specs.declared.flips.Site.{Site}

-- ---- crossings

abbrev pub site : (op k : ℕ) → Spot → Site
site op k spot = record { op = op; k = k; spot = spot }

-- the crossings of n blocks of the op of this number, from block k on
abbrev pub sites_on : (op k : ℕ) → ℕ → List Site
sites_on op k zero = []
sites_on op k (suc n) = site op k Host ∷ site op k Wire ∷ site op k Medium ∷ sites_on op (k + 1) n

-- how many blocks a request has
abbrev pub count_in : Option (ℕ × ℕ) → ℕ
count_in None = 0
count_in (Some request) = request.1

-- the crossings of all blocks of the reads and writes among these ops, the first of which has this number
abbrev pub sites_from : (number : ℕ) → List Op → List Site
sites_from number [] = []
sites_from number (op ∷ ops) = sites_on number 0 (count_in (request_of op)) ++ sites_from (number + 1) ops

abbrev pub sites_of : Script → List Site
sites_of s = sites_from 1 s.ops

-- The crossing is of an op and of a block that a fault line can name.
pub record IsSite (at : Site) : Type 0 where
  pub op_low : 1 ≤ at.op
  pub op_high : at.op ≤ 1024
  pub block : at.k ≤ 2047

abbrev pub AreSites : List Site → Type 0
AreSites [] = Unit {0}
AreSites (at ∷ sites) = IsSite at × AreSites sites

-- ---- faults

-- the line that flips the bits of this byte in byte `off` of the frame that crosses there
abbrev pub flip_at : List Op → Site → (off byte : ℕ) → FaultLine
flip_at ops at off byte = crossed true ops (record { op = at.op; k = at.k; spot = at.spot; kind = Flip off (byte ∷ []) })

-- the script with these faults, whose lines have these numbers before those of the ops
abbrev pub with_faults : Script → List FaultLine → (lines : List ℕ) → Script
with_faults s faults lines = record s { faults = faults; lines = lines }

-- the script with this flip as its one fault, whose line has no number
abbrev pub with_flip : Script → Site → (off byte : ℕ) → Script
with_flip s at off byte = with_faults s (flip_at s.ops at off byte ∷ []) (0 ∷ s.lines)

-- ---- faults that a script has itself

abbrev pub bad_at : (line : ℕ) → Option ScriptFault
bad_at line = Some (record { line = line; kind = BadFault })

abbrev pub bad_if : Bool → (line : ℕ) → Option ScriptFault → Option ScriptFault
bad_if true line rest = bad_at line
bad_if false line rest = rest

-- the first `overwrite` among these ops, whose lines have these numbers
abbrev pub overwrite_fault : List Op → (lines : List ℕ) → Option ScriptFault
overwrite_fault (op ∷ ops) (line ∷ lines) = bad_if (is_overwrite op) line (overwrite_fault ops lines)
overwrite_fault _ _ = None

abbrev pub fault_before : List FaultLine → (lines : List ℕ) → Option ScriptFault → Option ScriptFault
fault_before (f ∷ faults) (line ∷ lines) rest = bad_at line
fault_before _ _ rest = rest

-- The first `fault`, `shift` or `overwrite` line of a script can't be.
abbrev pub own_fault : Script → Option ScriptFault
own_fault s = fault_before s.faults s.lines (overwrite_fault s.ops s.lines)
