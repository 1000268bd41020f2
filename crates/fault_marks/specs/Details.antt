use Rattle.std.specs.Prelude.{ℕ, List, [], ◌++◌, codes, decimal}
use Rattle.script_lines.specs.declared.kind.ScriptKind.{ScriptKind}
use Rattle.fault_marks.specs.Sentences.{sentence}
use Rattle.fault_marks.specs.declared.detail.Detail.{Detail}
use Rattle.fault_marks.specs.declared.detail.Detail.TheVariants.{Plain, PastFrame, NoChange, NoShift, NoRequest, NoBlock, ShiftStored, ShiftTwice, ShiftAway, NoWrite, KeptWhole, NamedTwice, NoStored, NoBytes, NoPage, PastPage, LongShow, OtherTotal, Scattered, NoWholeTuple, BadCount, OverLegs, PastVolume, NoTuples, NoBegin, NewLine, ThirdLine, LongText, ManyInner, ManyEntries, ManyLegs, ManyFaults, ManySteps, ManyOps, ManyBlocks, ManySegments}

-- What is wrong, in a sentence with its numbers.

-- how the sentence of a count that is passed begins
abbrev pub many_text : Detail → List ℕ
many_text LongText = codes "a script has at most 4194304 bytes"
many_text ManyInner = codes "a script has at most 32 inner lines"
many_text ManyEntries = codes "a volume has at most 16 entries"
many_text ManyLegs = codes "an entry has at most 8 legs"
many_text ManyFaults = codes "a script has at most 256 lines of faults"
many_text ManySteps = codes "a schedule has at most 16384 entries"
many_text ManyOps = codes "a script has at most 1024 ops"
many_text ManyBlocks = codes "all requests together have at most 16384 blocks"
many_text (ManySegments segs) = codes "a list has at most 512 segments, and this has "
many_text _ = []

-- how the sentence begins: the kind's own, where nothing more is known
abbrev pub front_text : ScriptKind → Detail → List ℕ
front_text kind Plain = sentence kind
front_text kind (PastFrame frame end) = codes "a frame has "
front_text kind NoChange = codes "all bytes are zero, so nothing would change"
front_text kind NoShift = codes "a shift by 0 moves nothing"
front_text kind NoRequest = codes "this op is not there, or it reads and writes no blocks"
front_text kind (NoBlock blocks) = codes "blocks are numbered from 0, and this op has "
front_text kind ShiftStored = codes "a write has no shift at the medium"
front_text kind ShiftTwice = codes "an earlier line shifts this op"
front_text kind ShiftAway = codes "a shift needs units of type 1, and may move no block off its unit"
front_text kind NoWrite = codes "the medium loses or tears what an op writes, and this op does not write"
front_text kind (KeptWhole stored) = codes "LEN is less than what the unit stores of a block, which is "
front_text kind NamedTwice = codes "an earlier line loses, tears or fails this block"
front_text kind NoStored = codes "the image has no such block, or of another type or size than the volume"
front_text kind NoBytes = codes "a segment has at least one byte"
front_text kind (NoPage pages) = codes "pages are numbered from 0, and the script has "
front_text kind (PastPage end) = codes "a page has 4096 bytes, and this segment ends at "
front_text kind (LongShow len) = codes "a show has at most 64 bytes, and this has "
front_text kind (OtherTotal wanted given) = codes "bytes wanted: "
front_text kind Scattered = codes "a block lies in more than 4 segments"
front_text kind NoWholeTuple = codes "a segment of tuples has whole tuples, of 8 bytes each"
front_text kind (BadCount n) = codes "N is 1 to 2048, and this is "
front_text kind OverLegs = codes "an inner volume is not there, or the lengths do not fit LEN and C"
front_text kind (PastVolume blocks first last) = codes "the volume has "
front_text kind NoTuples = codes "the units of the volume have no tuples"
front_text kind NoBegin = codes "the text ends without a line begin"
front_text kind NewLine = codes "this line belongs to version 2, and the script begins with dix 1"
front_text kind ThirdLine = codes "this line belongs to version 3, and the script begins with dix 1 or dix 2"
front_text kind detail = many_text detail

-- how many blocks the volume has, and which are wanted
abbrev pub blocks_text : (blocks first last : ℕ) → List ℕ
blocks_text blocks first last = decimal blocks ++ (codes " blocks, blocks wanted: " ++ (decimal first ++ (codes " to " ++ decimal last)))

-- the numbers at its end
abbrev pub behind_text : Detail → List ℕ
behind_text (PastFrame frame end) = decimal frame ++ (codes " bytes, and these end at " ++ decimal end)
behind_text (PastVolume blocks first last) = blocks_text blocks first last
behind_text (NoBlock blocks) = decimal blocks
behind_text (NoPage pages) = decimal pages
behind_text (PastPage end) = decimal end
behind_text (KeptWhole stored) = decimal stored
behind_text (LongShow len) = decimal len
behind_text (OtherTotal wanted given) = decimal wanted ++ (codes ", given: " ++ decimal given)
behind_text (BadCount n) = decimal n
behind_text (ManySegments segs) = decimal segs
behind_text _ = []

-- the sentence
abbrev pub detail_text : ScriptKind → Detail → List ℕ
detail_text kind detail = front_text kind detail ++ behind_text detail
