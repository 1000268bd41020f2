use Rattle.std.specs.Prelude.{ℕ, List, [], ◌∷◌, ◌++◌}
use Rattle.rig_api.specs.Log.{LogEntry}
use Rattle.vector_lines.specs.Printed.{first_line, in_of, out_of, vector_line}

-- The text of records whose moved bytes are all that was sent, as those of a run without scheduled faults.

-- the line of a record: its moved bytes went to the device in a write, and came back in any other command
abbrev pub record_text : LogEntry → List ℕ
record_text e = vector_line e.what (out_of e.what.cdb e.moved) (in_of e.what.cdb e.moved)

abbrev pub records_text : List LogEntry → List ℕ
records_text [] = []
records_text (e ∷ es) = record_text e ++ records_text es

-- the first line, and a line for each record
abbrev pub vectors_text : List LogEntry → List ℕ
vectors_text es = first_line ++ records_text es
