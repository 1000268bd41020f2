use Rattle.std.specs.Prelude.{ℕ, List, [], ◌∷◌, ◌++◌, length, codes, decimal}
use Rattle.vector_lines.specs.declared.line.VectorLine.{VectorLine}
use Rattle.run_words.specs.Commands.{cdb_words}

-- A list of commands in words.

-- the number of the line, the device, and the command
abbrev pub vector_words : VectorLine → List ℕ
vector_words v = codes "line " ++ (decimal v.number ++ (codes " dev " ++ (decimal v.dev ++ (codes " " ++ (cdb_words v.cdb ++ codes "\n")))))

abbrev pub all_words : List VectorLine → List ℕ
all_words [] = []
all_words (v ∷ vs) = vector_words v ++ all_words vs

-- how many commands the list has, and each of them
abbrev pub vectors_text : List VectorLine → List ℕ
vectors_text lines = (codes "right vectors " ++ (decimal (length lines) ++ codes "\n")) ++ all_words lines
