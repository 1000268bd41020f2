use Rattle.std.specs.Prelude.{ℕ, Bool, true, false, if◌then◌else◌, List, [], ◌∷◌, Option, Some, None}
use Rattle.fault_schedule.specs.declared.fault.FaultLine.{FaultLine}
use Rattle.script_lines.specs.declared.kind.ScriptKind.TheVariants.{BadFault}
use Rattle.stack_ops.specs.declared.op.Op.{Op}
use Rattle.stack_ops.specs.Ops.{is_overwrite}
use Rattle.script_text.specs.declared.fault.ScriptFault.{ScriptFault}
use Rattle.script_text.specs.declared.script.Script.{Script}

-- Which scripts have no vectors: those with a fault, a shift, a lost or torn write, or an overwrite, which act behind the commands.

-- the line of the first overwrite
abbrev pub first_overwrite : (lines : List ℕ) → List Op → Option ℕ
first_overwrite [] ops = None
first_overwrite (n ∷ ns) [] = None
first_overwrite (n ∷ ns) (op ∷ ops) = if is_overwrite op then Some n else first_overwrite ns ops

-- the first line of a fault, which stands before all ops, or of an overwrite; the lines are those of the faults, then those of the ops
abbrev pub unplayed_line : (lines : List ℕ) → List FaultLine → List Op → Option ℕ
unplayed_line lines [] ops = first_overwrite lines ops
unplayed_line [] (f ∷ fs) ops = None
unplayed_line (n ∷ ns) (f ∷ fs) ops = Some n

abbrev pub named : Option ℕ → Option ScriptFault
named None = None
named (Some n) = Some (record { line = n; kind = BadFault })

-- the first such line of a script, with its fault
abbrev pub unplayed : Script → Option ScriptFault
unplayed s = named (unplayed_line s.lines s.faults s.ops)
