use Rattle.std.specs.Prelude.{ℕ, ◌+◌, ◌-◌, ◌&&◌, Bool, true, false, nat_le, if◌then◌else◌, List, [], ◌∷◌, ◌++◌, length, take, codes, decimal, Option, Some, None}
use Rattle.script_words.specs.Cuts.{lines_of, words_of}
use Rattle.script_lines.specs.Verbs.{verb_of}
use Rattle.script_lines.specs.declared.verb.Verb.{Verb}
use Rattle.script_lines.specs.declared.verb.Verb.TheVariants.{Linear, Stripe, Over}
use Rattle.script_text.specs.declared.script.Script.{Script}
use Rattle.volume_table.specs.Faults.{kind_name, kind_number}
use Rattle.volume_table.specs.declared.fault.VolumeKind.{VolumeKind}
use Rattle.volume_table.specs.declared.fault.VolumeKind.TheVariants.{Gap, UnknownDevice, PastEnd, Overlap, MixedTypes, BadChunk, BeforeStart, OtherSize}
use Rattle.fault_marks.specs.Closer.{settled}
use Rattle.fault_marks.specs.Marks.{word_marked}
use Rattle.fault_marks.specs.Words.{text_behind}

-- An entry of a volume that doesn't fit the devices: at which line of the script it is, and what is said of it.

-- lines of these verbs add entries
abbrev pub is_entry_verb : Option Verb → Bool
is_entry_verb (Some Linear) = true
is_entry_verb (Some Stripe) = true
is_entry_verb (Some Over) = true
is_entry_verb _ = false

abbrev pub first_verb : List (List ℕ) → Option Verb
first_verb [] = None
first_verb (first ∷ words) = verb_of first

-- how many entries a script's volume has
abbrev pub entries_of : Option Script → ℕ
entries_of None = 0
entries_of (Some script) = length script.entries

-- Behind so many lines this one comes, which adds entries, and with it the script has the entry of this number, counted from 1.
abbrev pub adds_entry : (text : List ℕ) → (entry before : ℕ) → (line : List ℕ) → Bool
adds_entry text entry before line = is_entry_verb (first_verb (words_of line)) && nat_le entry (entries_of (settled (take (length text - length (text_behind (before + 1) text)) text)))

-- the number of the first line that adds the entry, and the line, of those that come behind so many others
abbrev pub entry_from : (text : List ℕ) → (entry before : ℕ) → List (List ℕ) → Option (ℕ × List ℕ)
entry_from text entry before [] = None
entry_from text entry before (line ∷ lines) = if adds_entry text entry before line then Some (before + 1, line) else entry_from text entry (before + 1) lines

-- the same of all lines of a text
abbrev pub entry_line : (text : List ℕ) → (entry : ℕ) → Option (ℕ × List ℕ)
entry_line text entry = entry_from text entry 0 (lines_of text)

-- a line that names one device, and not the legs of a stripe
abbrev pub is_linear : Option Verb → Bool
is_linear (Some Linear) = true
is_linear _ = false

-- The word that is wrong: where the entry begins, its length, the device of a `linear` line or its address there, or the legs.
abbrev pub word_of : VolumeKind → (one : Bool) → ℕ
word_of Gap one = 1
word_of BadChunk one = 2
word_of UnknownDevice one = if one then 4 else 5
word_of MixedTypes one = if one then 4 else 5
word_of OtherSize one = if one then 4 else 5
word_of BeforeStart one = if one then 6 else 5
word_of PastEnd one = if one then 6 else 5
word_of Overlap one = if one then 6 else 5

-- what is wrong, in a sentence
abbrev pub misfit_sentence : VolumeKind → List ℕ
misfit_sentence Gap = codes "the entry does not begin where the ones before it end"
misfit_sentence UnknownDevice = codes "the image has no such device"
misfit_sentence BadChunk = codes "the length is not a multiple of the chunk times the number of legs"
misfit_sentence BeforeStart = codes "the entry begins below the first address of a device"
misfit_sentence PastEnd = codes "the entry ends behind the last address of a device"
misfit_sentence Overlap = codes "the entry has a block in common with another leg or an earlier entry"
misfit_sentence MixedTypes = codes "a device has another protection type than the first"
misfit_sentence OtherSize = codes "a device has another block size than the script"

-- entry, number and name of the fault
abbrev pub misfit_name : (entry : ℕ) → VolumeKind → List ℕ
misfit_name entry kind = codes "volume " ++ (decimal entry ++ (codes " " ++ (decimal (kind_number kind) ++ (codes " " ++ kind_name kind))))

-- the script's line, by its number, and the line itself with a caret under what is wrong
abbrev pub misfit_line : VolumeKind → Option (ℕ × List ℕ) → List ℕ
misfit_line kind None = codes "\n"
misfit_line kind (Some found) = codes " line " ++ (decimal found.0 ++ (codes "\n" ++ word_marked (word_of kind (is_linear (first_verb (words_of found.1)))) found.1))

-- the fault, the script's line with a caret under what is wrong, and a sentence
abbrev pub misfit_text : (text : List ℕ) → (entry : ℕ) → VolumeKind → List ℕ
misfit_text text entry kind = misfit_name entry kind ++ (misfit_line kind (entry_line text entry) ++ (misfit_sentence kind ++ codes "\n"))
