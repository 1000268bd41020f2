use Rattle.std.specs.Prelude.{ℕ, ◌+◌, eqb, nat_lt, if◌then◌else◌, List, [], ◌∷◌, ◌++◌, length, codes, Option, Some, None}
use Rattle.std.specs.List.{position}
use Rattle.script_words.specs.Cuts.{words_of}
use Rattle.script_words.specs.Hexes.{hex_in}
use Rattle.script_words.specs.Places.{word32}
use Rattle.script_lines.specs.declared.kind.ScriptKind.{ScriptKind}
use Rattle.script_lines.specs.declared.kind.ScriptKind.TheVariants.{NotAscii, UnknownWord, BadNumber, MissingWord}
use Rattle.script_text.specs.declared.fault.ScriptFault.{ScriptFault}
use Rattle.dix_base.specs.declared.reading.TheConstants.{LONGEST_LINE}
use Rattle.fault_marks.specs.Marks.{caret_lines, is_foreign, last_end, or_zero, word_begin}
use Rattle.fault_marks.specs.Sentences.{sentence}
use Rattle.fault_marks.specs.Texts.{fault_line}
use Rattle.fault_marks.specs.Words.{line_at, spans_of}

-- What is said of a list of commands with a fault.

abbrev pub cdb_word : Option (List ℕ) → ℕ
cdb_word None = 2
cdb_word (Some cdb) = 3

-- of a line whose device is one, with these words behind it: the command block, or else what is sent
abbrev pub behind_device : List (List ℕ) → ℕ
behind_device [] = 1
behind_device (cdb ∷ words) = cdb_word (hex_in 32 cdb)

abbrev pub device_word : Option ℕ → List (List ℕ) → ℕ
device_word None words = 1
device_word (Some dev) words = behind_device words

-- The first word that isn't of its form, counted from 0, of a line v DEV CDB OUT.
abbrev pub bad_word : List (List ℕ) → ℕ
bad_word [] = 1
bad_word (verb ∷ []) = 1
bad_word (verb ∷ dev ∷ words) = device_word (word32 dev) words

-- the word that a fault of this kind is about
abbrev pub list_word : ScriptKind → List (List ℕ) → ℕ
list_word BadNumber words = bad_word words
list_word kind words = 0

-- how many bytes of the line stand before the caret
abbrev pub list_column : ScriptKind → (line : List ℕ) → ℕ
list_column NotAscii line = or_zero (position is_foreign line)
list_column MissingWord line = last_end (spans_of line) + 1
list_column kind line = word_begin (list_word kind (words_of line)) (spans_of line)

-- what is wrong with the word of this number
abbrev pub form_sentence : (word : ℕ) → List ℕ
form_sentence word =
    if eqb word 1 then codes "DEV is a number from 0 to 4294967295"
    else (if eqb word 2 then codes "CDB is 1 to 32 bytes in hexadecimal digits"
    else codes "OUT is bytes in hexadecimal digits, or - for none")

-- what is wrong, in a sentence
abbrev pub list_sentence : ScriptKind → (word : ℕ) → List ℕ
list_sentence UnknownWord word = codes "a line of a list begins with v"
list_sentence MissingWord word = codes "a word is missing here: a line is v DEV CDB OUT"
list_sentence BadNumber word = form_sentence word
list_sentence kind word = sentence kind

-- nothing, where the line has more than 4,096 bytes
abbrev pub list_line : ScriptKind → (line : List ℕ) → List ℕ
list_line kind line = if nat_lt LONGEST_LINE (length line) then [] else caret_lines (list_column kind line) line

-- the line with a caret under what is wrong, and a sentence; the sentence alone, where the text has no such line
abbrev pub list_marked : ScriptKind → Option (List ℕ) → List ℕ
list_marked kind None = list_sentence kind 0 ++ codes "\n"
list_marked kind (Some line) = list_line kind line ++ (list_sentence kind (list_word kind (words_of line)) ++ codes "\n")

-- the fault, the line with a caret under what is wrong, and a sentence
abbrev pub list_text : (text : List ℕ) → ScriptFault → List ℕ
list_text text fault = fault_line fault ++ list_marked fault.kind (line_at fault.line text)
