use Rattle.std.specs.Prelude.{ℕ, if◌then◌else◌, List, [], codes, Option, Some, Result, Ok}
use Rattle.std.specs.Str.{bytes_eq}
use Rattle.script_words.specs.Hexes.{hex_in}
use Rattle.script_words.specs.Places.{word32}
use Rattle.script_lines.specs.declared.kind.ScriptKind.{ScriptKind}
use Rattle.script_lines.specs.Reading.{◌>>=◌, fixed, value}
use Rattle.vector_lines.specs.declared.line.VectorLine.{VectorLine}

-- A line of a list: v DEV CDB OUT, behind which words aren't looked at.

-- the word that each line begins with
abbrev pub verb : List ℕ
verb = codes "v"

-- so many bytes have no more digits than a text may have bytes
abbrev pub most_out : ℕ
most_out = 2097152

-- a hyphen for nothing, or bytes
abbrev pub out_in : List ℕ → Option (List ℕ)
out_in word = if bytes_eq word (codes "-") then Some [] else hex_in most_out word

-- what the words of a line with this number say, or the first fault from the left
abbrev pub line_form : (number : ℕ) → List (List ℕ) → Result VectorLine ScriptKind
line_form number words = do
  behind ← fixed verb words
  dev ← value word32 behind
  cdb ← value (hex_in 32) dev.1
  out ← value out_in cdb.1
  Ok (record { number = number; dev = dev.0; cdb = cdb.0; out = out.0 })
