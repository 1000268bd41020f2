use Rattle.std.specs.Prelude.{ℕ, ◌+◌, not, eqb, if◌then◌else◌, List, ◌++◌, length, codes, decimal, get_or, Option, Some, None, min, ◌^◌, ◌-◌}
use Rattle.std.specs.List.{position}
use Rattle.script_text.specs.declared.script.Script.{Script}
use Rattle.stack_ops.specs.Ops.{is_overwrite}
use Rattle.run_premises.specs.Forms.{accounts_by_form, escapes_none, good_lines, known_lines, shows_by_form, supplies_none}

-- Which premises of the theorems on a run a script meets by its form alone; what mode, volume and image ask is not told.

-- the line of fault line i, counted from 0, if there is such a one
abbrev pub fault_line_at : Script → ℕ → Option ℕ
fault_line_at script i = if eqb i (length script.faults) then None else Some (get_or script.lines i 0)

-- the line of an op, counted from 0: the numbers of the ops' lines stand behind those of the fault lines
abbrev pub op_line_at : Script → Option ℕ → Option ℕ
op_line_at script None = None
op_line_at script (Some k) = Some (get_or script.lines (min (length script.faults + k) (2 ^ 64 - 1)) 0)

abbrev pub or_else : Option ℕ → Option ℕ → Option ℕ
or_else (Some line) other = Some line
or_else None other = other

-- the first line that overwrites a stored block
abbrev pub overwrite_at : Script → Option ℕ
overwrite_at script = op_line_at script (position is_overwrite script.ops)

-- the first line that alters anything: a `fault`, `shift`, `lose`, `tear` or `fail`, else an `overwrite`
abbrev pub calm_at : Script → Option ℕ
calm_at script = or_else (fault_line_at script 0) (overwrite_at script)

-- Nothing where tuples show each fault by its form; else the first fault line that lacks the form, or the first overwrite.
abbrev pub shown_at : Script → Option ℕ
shown_at script = if shows_by_form script.mode.kind script.block script.faults script.ops then None
    else or_else (fault_line_at script (good_lines script.mode.kind script.block script.faults script.ops)) (overwrite_at script)

-- Nothing where each fault is accounted for by its form, also one of a disk that fails, loses or misdirects a block; else the first fault line that isn't, or the first overwrite.
abbrev pub known_at : Script → Option ℕ
known_at script = if accounts_by_form script.mode.kind script.block script.faults script.ops then None
    else or_else (fault_line_at script (known_lines script.mode.kind script.block script.faults script.ops)) (overwrite_at script)

-- Nothing where no op supplies an escape by its form; else the first that may.
abbrev pub escape_at : Script → Option ℕ
escape_at script = if escapes_none script.ops then None else op_line_at script (position (λ op. not (supplies_none op)) script.ops)

-- that a premise holds, or the line of the script at which it doesn't
abbrev pub premise_line : (name : List ℕ) → Option ℕ → List ℕ
premise_line name None = name ++ codes " yes\n"
premise_line name (Some line) = name ++ (codes " no line " ++ (decimal line ++ codes "\n"))

-- Without faults (`calm`), with faults that tuples show (`shown`), with faults that are accounted for (`known`), without escapes (`unescaped`).
abbrev pub premise_lines : Script → List ℕ
premise_lines script = premise_line (codes "calm") (calm_at script)
    ++ (premise_line (codes "shown") (shown_at script) ++ (premise_line (codes "known") (known_at script) ++ premise_line (codes "unescaped") (escape_at script)))
