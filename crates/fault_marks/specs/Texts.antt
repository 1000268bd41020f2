use Rattle.std.specs.Prelude.{ℕ, ◌+◌, List, [], ◌∷◌, ◌++◌, length, codes, decimal}
use Rattle.script_lines.specs.Kinds.{kind_name, kind_number}
use Rattle.script_text.specs.declared.fault.ScriptFault.{ScriptFault}
use Rattle.script_text.specs.declared.script.Script.{Script}
use Rattle.stack_ops.specs.declared.op.Op.{Op}
use Rattle.stack_ops.specs.declared.op.Op.TheVariants.{Write, Fetch, WritePi, FetchPi}
use Rattle.fault_marks.specs.Marks.{line_marked}
use Rattle.fault_marks.specs.Closer.{closer_of}
use Rattle.fault_marks.specs.Details.{detail_text}
use Rattle.fault_marks.specs.declared.closer.Closer.{Closer}
use Rattle.fault_marks.specs.Premises.{premise_lines}
use Rattle.fault_marks.specs.Words.{line_at}

-- What is said of a text that is judged.

-- line, number and name of a fault
abbrev pub fault_line : ScriptFault → List ℕ
fault_line fault = codes "script " ++ (decimal fault.line ++ (codes " " ++ (decimal (kind_number fault.kind) ++ (codes " " ++ (kind_name fault.kind ++ codes "\n")))))

abbrev pub marked_by : Closer → (text : List ℕ) → ScriptFault → List ℕ
marked_by c text fault = fault_line fault ++ (line_marked c.word fault text (line_at fault.line text) ++ (detail_text fault.kind c.detail ++ codes "\n"))

-- the fault, the line with a caret under what is wrong, and a sentence
abbrev pub marked_text : (text : List ℕ) → ScriptFault → List ℕ
marked_text text fault = marked_by (closer_of text fault) text fault

-- how many blocks an op asks for: those of a request
abbrev pub blocks_asked : Op → ℕ
blocks_asked (Write v n body app) = n
blocks_asked (Fetch v n body) = n
blocks_asked (WritePi v n body tuples) = n
blocks_asked (FetchPi v n body tuples) = n
blocks_asked _ = 0

abbrev pub all_asked : List Op → ℕ
all_asked [] = 0
all_asked (op ∷ ops) = blocks_asked op + all_asked ops

-- of a script without a fault: how many ops it has, how many blocks its requests ask for, how many faults it schedules, and which premises it meets
abbrev pub right_text : Script → List ℕ
right_text script = codes "right ops " ++ (decimal (length script.ops) ++ (codes " blocks " ++ (decimal (all_asked script.ops) ++ (codes " faults " ++ (decimal (length script.faults) ++ (codes "\n" ++ premise_lines script))))))
