use Rattle.std.specs.Prelude.{ℕ, List, codes}
use Rattle.script_lines.specs.declared.kind.ScriptKind.{ScriptKind}
use Rattle.script_lines.specs.declared.kind.ScriptKind.TheVariants.{NotAscii, LongLine, UnknownWord, BadNumber, MissingWord, ExtraWord, OutOfPlace, TooMany, BadSegments, SegOverlap, BadRange, BadFault, NoIntegrity, NoHeader, Memory}

-- what is wrong, in a sentence
abbrev pub sentence : ScriptKind → List ℕ
sentence NotAscii = codes "only bytes from space to tilde: no tab, no carriage return"
sentence LongLine = codes "a line has at most 4096 bytes"
sentence UnknownWord = codes "another word belongs here"
sentence BadNumber = codes "this word is not of its form or range"
sentence MissingWord = codes "a word is missing here"
sentence ExtraWord = codes "the line ends before this word; a comment has a line of its own"
sentence OutOfPlace = codes "this line may not stand behind those before it"
sentence TooMany = codes "with this line a count passes its limit"
sentence BadSegments = codes "a segment is empty, outside the pages or no whole tuples, or DATA or TUPLES has not the bytes of N blocks"
sentence SegOverlap = codes "two segments of the line share a byte"
sentence BadRange = codes "N is 0 or too large, or the blocks are not in the volume"
sentence BadFault = codes "the fault can not act: what it names is not there, or it changes nothing"
sentence NoIntegrity = codes "this needs tuples that the mode line switches off"
sentence NoHeader = codes "a script begins with dix 1, dix 2 or dix 3"
sentence Memory = codes "no memory"
