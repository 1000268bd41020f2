use Rattle.std.specs.Prelude.{ℕ, ◌≡◌, ◌+◌, ◌⊎◌, Bool, true, false, not, ◌&&◌, eqb, nat_lt, if◌then◌else◌, List, [], ◌∷◌, ◌++◌, codes, length, Result, Ok, Err}
use Rattle.std.specs.Str.{bytes_eq}
use Rattle.script_words.specs.Cuts.{is_plain, lines_of, words_of}
use Rattle.script_lines.specs.declared.kind.ScriptKind.{ScriptKind}
use Rattle.script_lines.specs.declared.kind.ScriptKind.TheVariants.{Memory, NoHeader, NotAscii, TooMany}
use Rattle.vector_lines.specs.Lines.{line_form}
use Rattle.vector_lines.specs.declared.line.VectorLine.{VectorLine}
use Rattle.script_text.specs.declared.fault.ScriptFault.{ScriptFault}
use Rattle.dix_base.specs.declared.reading.TheConstants.{MOST_BYTES}

-- A list of commands: a text whose first line that isn't skipped is dix vectors 1, and lines of commands behind it.

-- a line without words, or whose first word begins with #
abbrev pub is_skipped : List (List ℕ) → Bool
is_skipped [] = true
is_skipped ([] ∷ ws) = false
is_skipped ((b ∷ bs) ∷ ws) = eqb b 35

abbrev pub is_empty : List (List ℕ) → Bool
is_empty [] = true
is_empty (w ∷ ws) = false

-- these are the three words dix, vectors, 1
abbrev pub is_head : List (List ℕ) → Bool
is_head [] = false
is_head (a ∷ []) = false
is_head (a ∷ b ∷ []) = false
is_head (a ∷ b ∷ c ∷ ws) = bytes_eq a (codes "dix") && (bytes_eq b (codes "vectors") && (bytes_eq c (codes "1") && is_empty ws))

-- the first of these lines that isn't skipped is the first line of a list
abbrev pub is_list : List (List ℕ) → Bool
is_list [] = false
is_list (line ∷ lines) = if is_skipped (words_of line) then is_list lines else is_head (words_of line)

abbrev pub added : List VectorLine → Result VectorLine ScriptKind → Result (List VectorLine) ScriptKind
added so_far (Err k) = Err k
added so_far (Ok line) = Ok (so_far ++ (line ∷ []))

abbrev pub words_taken : (number : ℕ) → List (List ℕ) → List VectorLine → Result (List VectorLine) ScriptKind
words_taken number words so_far = if is_skipped words then Ok so_far else added so_far (line_form number words)

-- what is read with a line of this number
abbrev pub text_taken : (number : ℕ) → List ℕ → List VectorLine → Result (List VectorLine) ScriptKind
text_taken number line so_far = if not (is_plain line) then Err NotAscii else words_taken number (words_of line) so_far

abbrev pub go_on : (number : ℕ) → Result (List VectorLine) ScriptKind → (List VectorLine → Result (List VectorLine) ScriptFault) → Result (List VectorLine) ScriptFault
go_on number (Err k) more = Err (record { line = number; kind = k })
go_on number (Ok so_far) more = more so_far

-- the commands of the lines from this number on, behind those that were read, or the first fault with its line
abbrev pub lines_read : (number : ℕ) → List (List ℕ) → List VectorLine → Result (List VectorLine) ScriptFault
lines_read number [] so_far = Ok so_far
lines_read number (line ∷ lines) so_far = go_on number (text_taken number line so_far) (λ next. lines_read (number + 1) lines next)

-- the same of lines of which the first that isn't skipped has to be the first line of a list
abbrev pub head_read : (number : ℕ) → List (List ℕ) → Result (List VectorLine) ScriptFault
head_read number [] = Ok []
head_read number (line ∷ lines) =
    if not (is_plain line) then Err (record { line = number; kind = NotAscii })
    else (if is_skipped (words_of line) then head_read (number + 1) lines
    else (if is_head (words_of line) then lines_read (number + 1) lines [] else Err (record { line = number; kind = NoHeader })))

-- the commands of a text, which has at most 4,194,304 bytes, or its first fault
abbrev pub list_in : List ℕ → Result (List VectorLine) ScriptFault
list_in text = if nat_lt MOST_BYTES (length text) then Err (record { line = 0; kind = TooMany }) else head_read 1 (lines_of text)

-- A reader gave this and now has so many lines, or wanted memory.
abbrev pub Takes : Result (List VectorLine) ScriptKind → Result (Unit {0}) ScriptKind → List VectorLine → Type 0
Takes want (Ok u) after = want ≡ Ok after
Takes want (Err k) after = (k ≡ Memory) ⊎ (want ≡ Err k)
