use Rattle.std.specs.Prelude.{ℕ, ◌≡◌, ◌+◌, ◌⊎◌, Bool, false, not, eqb, leb, nat_lt, if◌then◌else◌, List, [], ◌∷◌, ◌++◌, length, Result, Ok, Err}
use Rattle.script_words.specs.Cuts.{is_plain, lines_of, words_of}
use Rattle.script_lines.specs.declared.kind.ScriptKind.{ScriptKind}
use Rattle.script_lines.specs.declared.kind.ScriptKind.TheVariants.{LongLine, Memory, NotAscii, TooMany}
use Rattle.nvme_command.specs.Lines.{line_form}
use Rattle.nvme_command.specs.declared.line.NvmLine.{NvmLine}
use Rattle.script_text.specs.declared.fault.ScriptFault.{ScriptFault}
use Rattle.dix_base.specs.declared.reading.TheConstants.{LONGEST_LINE, MOST_BYTES}

-- A text of NVM commands, line by line. A line without words, or whose first word begins with #, is skipped.

abbrev pub is_comment : List ℕ → Bool
is_comment [] = false
is_comment (b ∷ bs) = eqb b 35

-- one more line, of at most 1,024; that there are too many comes behind the line's own faults
abbrev pub added : List NvmLine → Result NvmLine ScriptKind → Result (List NvmLine) ScriptKind
added so_far (Err k) = Err k
added so_far (Ok line) = if leb 1024 (length so_far) then Err TooMany else Ok (so_far ++ (line ∷ []))

abbrev pub words_taken : (number : ℕ) → List (List ℕ) → List NvmLine → Result (List NvmLine) ScriptKind
words_taken number [] so_far = Ok so_far
words_taken number (first ∷ words) so_far = if is_comment first then Ok so_far else added so_far (line_form number (first ∷ words))

-- what is read with a line of this number
abbrev pub text_taken : (number : ℕ) → List ℕ → List NvmLine → Result (List NvmLine) ScriptKind
text_taken number line so_far =
    if not (is_plain line) then Err NotAscii
    else (if nat_lt LONGEST_LINE (length line) then Err LongLine else words_taken number (words_of line) so_far)

abbrev pub go_on : (number : ℕ) → Result (List NvmLine) ScriptKind → (List NvmLine → Result (List NvmLine) ScriptFault) → Result (List NvmLine) ScriptFault
go_on number (Err k) more = Err (record { line = number; kind = k })
go_on number (Ok so_far) more = more so_far

-- the lines from this number on, behind those that were read, or the first fault with its line
abbrev pub lines_read : (number : ℕ) → List (List ℕ) → List NvmLine → Result (List NvmLine) ScriptFault
lines_read number [] so_far = Ok so_far
lines_read number (line ∷ lines) so_far = go_on number (text_taken number line so_far) (λ next. lines_read (number + 1) lines next)

-- the lines of a text, which has at most 4,194,304 bytes, or its first fault
abbrev pub text_in : List ℕ → Result (List NvmLine) ScriptFault
text_in text = if nat_lt MOST_BYTES (length text) then Err (record { line = 0; kind = TooMany }) else lines_read 1 (lines_of text) []

-- A reader gave this and now has so many lines, or wanted memory.
abbrev pub Takes : Result (List NvmLine) ScriptKind → Result (Unit {0}) ScriptKind → List NvmLine → Type 0
Takes want (Ok u) after = want ≡ Ok after
Takes want (Err k) after = (k ≡ Memory) ⊎ (want ≡ Err k)

-- The answer is that of the text, or want of memory.
abbrev pub Answers : Result (List NvmLine) ScriptFault → Result (List NvmLine) ScriptFault → Type 0
Answers want (Ok lines) = want ≡ Ok lines
Answers want (Err fault) = (fault.kind ≡ Memory) ⊎ (want ≡ Err fault)
