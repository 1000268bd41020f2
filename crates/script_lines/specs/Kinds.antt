use Rattle.std.specs.Prelude.{ℕ, List, codes}
use Rattle.script_lines.specs.declared.kind.ScriptKind.{ScriptKind}
use Rattle.script_lines.specs.declared.kind.ScriptKind.TheVariants.{NotAscii, LongLine, UnknownWord, BadNumber, MissingWord, ExtraWord, OutOfPlace, TooMany, BadSegments, SegOverlap, BadRange, BadFault, NoIntegrity, NoHeader, Memory}

-- want of memory
abbrev pub of_memory : ScriptKind
of_memory = Memory

abbrev pub kind_number : ScriptKind → ℕ
kind_number NotAscii = 1
kind_number LongLine = 2
kind_number UnknownWord = 3
kind_number BadNumber = 4
kind_number MissingWord = 5
kind_number ExtraWord = 6
kind_number OutOfPlace = 7
kind_number TooMany = 8
kind_number BadSegments = 9
kind_number SegOverlap = 10
kind_number BadRange = 11
kind_number BadFault = 12
kind_number NoIntegrity = 13
kind_number NoHeader = 14
kind_number Memory = 255

abbrev pub kind_name : ScriptKind → List ℕ
kind_name NotAscii = codes "NotAscii"
kind_name LongLine = codes "LongLine"
kind_name UnknownWord = codes "UnknownWord"
kind_name BadNumber = codes "BadNumber"
kind_name MissingWord = codes "MissingWord"
kind_name ExtraWord = codes "ExtraWord"
kind_name OutOfPlace = codes "OutOfPlace"
kind_name TooMany = codes "TooMany"
kind_name BadSegments = codes "BadSegments"
kind_name SegOverlap = codes "SegOverlap"
kind_name BadRange = codes "BadRange"
kind_name BadFault = codes "BadFault"
kind_name NoIntegrity = codes "NoIntegrity"
kind_name NoHeader = codes "NoHeader"
kind_name Memory = codes "Memory"
