use Rattle.std.specs.Prelude.{ℕ, ◌+◌, ◌-◌, Bool, false, not, ◌&&◌, eqb, nat_lt, if◌then◌else◌, List, [], ◌∷◌, ◌++◌, length, map, take, replicate, codes, slice_get, Option, Some, None, Result, Ok, Err}
use Rattle.std.specs.List.{position}
use Rattle.script_words.specs.Cuts.{is_printable}
use Rattle.script_lines.specs.Kinds.{kind_number}
use Rattle.script_lines.specs.declared.kind.ScriptKind.{ScriptKind}
use Rattle.script_lines.specs.declared.kind.ScriptKind.TheVariants.{NotAscii, UnknownWord, BadNumber, MissingWord, ExtraWord}
use Rattle.script_text.specs.Language.{script_in}
use Rattle.script_text.specs.declared.fault.ScriptFault.{ScriptFault}
use Rattle.script_text.specs.declared.script.Script.{Script}
use Rattle.fault_marks.specs.Words.{spans_of, text_behind}
use Rattle.fault_marks.specs.declared.words.Span.{Span}
use Rattle.dix_base.specs.declared.reading.TheConstants.{LONGEST_LINE}

-- Where in its line a fault is.

-- a text has this very fault
abbrev pub is_fault : ScriptFault → Result Script ScriptFault → Bool
is_fault fault (Ok script) = false
is_fault fault (Err other) = eqb fault.line other.line && eqb (kind_number fault.kind) (kind_number other.kind)

-- the number of bytes of the text before the line of this number
abbrev pub line_begin : ℕ → List ℕ → ℕ
line_begin number text = length text - length (text_behind (number - 1) text)

-- The word at fault: the last one of the shortest beginning of the text that ends behind a word of the line and has this very fault. The line begins behind so many bytes of the text.
abbrev pub word_at_fault : ScriptFault → (text : List ℕ) → (begin : ℕ) → List Span → Option ℕ
word_at_fault fault text begin [] = None
word_at_fault fault text begin (w ∷ ws) = if is_fault fault (script_in (take (begin + w.end) text)) then Some w.begin else word_at_fault fault text begin ws

abbrev pub first_begin : List Span → ℕ
first_begin [] = 0
first_begin (w ∷ ws) = w.begin

-- where the last word ends, of those behind one that ends here
abbrev pub last_end_from : ℕ → List Span → ℕ
last_end_from end [] = end
last_end_from end (w ∷ ws) = last_end_from w.end ws

abbrev pub last_end : List Span → ℕ
last_end words = last_end_from 0 words

abbrev pub or_first : Option ℕ → List Span → ℕ
or_first None words = first_begin words
or_first (Some place) words = place

abbrev pub begin_or : List Span → Option Span → ℕ
begin_or words None = first_begin words
begin_or words (Some w) = w.begin

-- where the word of this number begins, counted from 0; where the first does, if there are fewer
abbrev pub word_begin : (word : ℕ) → List Span → ℕ
word_begin word words = begin_or words (slice_get words word)

abbrev pub is_foreign : ℕ → Bool
is_foreign b = not (is_printable b)

abbrev pub or_zero : Option ℕ → ℕ
or_zero None = 0
or_zero (Some place) = place

-- what a caret of a fault of words stands under
abbrev pub under_word : ScriptFault → (text line : List ℕ) → ℕ
under_word fault text line = or_first (word_at_fault fault text (line_begin fault.line text) (spans_of line)) (spans_of line)

-- how many bytes of the line stand before the caret: it is under the first foreign byte; under the word at fault; two places behind the last word, where one is missing; else under the word of this number
abbrev pub column : ScriptKind → (word : ℕ) → ScriptFault → (text line : List ℕ) → ℕ
column NotAscii word fault text line = or_zero (position is_foreign line)
column UnknownWord word fault text line = under_word fault text line
column BadNumber word fault text line = under_word fault text line
column ExtraWord word fault text line = under_word fault text line
column MissingWord word fault text line = last_end (spans_of line) + 1
column _ word fault text line = word_begin word (spans_of line)

-- a byte that isn't printable is a question mark
abbrev pub shown_byte : ℕ → ℕ
shown_byte b = if is_foreign b then 63 else b

-- the line, and a caret under it behind so many bytes
abbrev pub caret_lines : (column : ℕ) → (line : List ℕ) → List ℕ
caret_lines column line = map shown_byte line ++ (codes "\n" ++ (replicate column 32 ++ codes "^\n"))

-- the line, and the caret under it
abbrev pub two_lines : (word : ℕ) → ScriptFault → (text line : List ℕ) → List ℕ
two_lines word fault text line = caret_lines (column fault.kind word fault text line) line

-- nothing, where the text has no such line, or it has more than 4,096 bytes
abbrev pub line_marked : (word : ℕ) → ScriptFault → (text : List ℕ) → Option (List ℕ) → List ℕ
line_marked word fault text None = []
line_marked word fault text (Some line) = if nat_lt LONGEST_LINE (length line) then [] else two_lines word fault text line

-- the line with a caret under the word of this number; nothing, where it has more than 4,096 bytes
abbrev pub word_marked : (word : ℕ) → (line : List ℕ) → List ℕ
word_marked word line = if nat_lt LONGEST_LINE (length line) then [] else caret_lines (word_begin word (spans_of line)) line
