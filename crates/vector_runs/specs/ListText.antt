use Rattle.std.specs.Prelude.{ℕ, Bool, false, is_some, ◌||◌, List, [], ◌∷◌, ◌++◌}
use Rattle.rig_api.specs.Log.{LogEntry}
use Rattle.vector_lines.specs.Printed.{first_line, in_of, vector_line}
use Rattle.vector_lines.specs.declared.line.VectorLine.{VectorLine}

-- The text of a list that was done.

-- the line of a command: its record's device, command block and outcome, what the line sent, and what came back
abbrev pub line_text : VectorLine → LogEntry → List ℕ
line_text l e = vector_line e.what l.out (in_of e.what.cdb e.moved)

-- those of all commands
abbrev pub lines_text : List VectorLine → List LogEntry → List ℕ
lines_text [] es = []
lines_text (l ∷ ls) [] = []
lines_text (l ∷ ls) (e ∷ es) = line_text l e ++ lines_text ls es

-- the first line and those
abbrev pub list_text : List VectorLine → List LogEntry → List ℕ
list_text ls es = first_line ++ lines_text ls es

-- some command has a sense
abbrev pub has_sense : List LogEntry → Bool
has_sense [] = false
has_sense (e ∷ es) = is_some e.what.outcome.sense || has_sense es
