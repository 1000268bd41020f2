use Rattle.std.specs.Prelude.{ℕ, ◌+◌, ◌-◌, ◌*◌, ◌^◌, Bool, false, not, eqb, min, nat_le, nat_lt, if◌then◌else◌, List, [], ◌∷◌, ◌++◌, length, take, codes, get_or, slice_get, Option, Some, None, Result, Ok, Err}
use Rattle.std.specs.List.{list_any, position}
use Rattle.std.specs.Str.{bytes_eq}
use Rattle.fault_schedule.specs.declared.fault.FaultKind.{FaultKind}
use Rattle.fault_schedule.specs.declared.fault.FaultKind.TheVariants.{Flip as FlipKind, Shift as ShiftKind, Keep as KeepKind, Fail as FailKind}
use Rattle.fault_schedule.specs.declared.fault.FaultLine.{FaultLine}
use Rattle.page_pool.specs.Places.{total}
use Rattle.page_pool.specs.declared.segs.Seg.{Seg}
use Rattle.pi_tuple.specs.declared.TheConstants.{LARGEST_BLOCK, TUPLE}
use Rattle.script_lines.specs.Forms.{line_form}
use Rattle.script_lines.specs.Verbs.{verb_of, version_of_verb}
use Rattle.script_lines.specs.declared.kind.ScriptKind.{ScriptKind}
use Rattle.script_lines.specs.declared.kind.ScriptKind.TheVariants.{OutOfPlace, TooMany, BadSegments, BadRange, BadFault, NoIntegrity}
use Rattle.script_lines.specs.declared.line.OpLine.{OpLine}
use Rattle.script_lines.specs.declared.line.OpLine.TheVariants.{Fill, Put, Show, Seal, Write, Read, WritePi, ReadPi, Flip as FlipOp}
use Rattle.script_lines.specs.declared.line.ScriptLine.{ScriptLine}
use Rattle.script_lines.specs.declared.line.ScriptLine.TheVariants.{Inner, Linear, Stripe, Over, Flip, Shift, Keep, Fail, Schedule, Op}
use Rattle.script_lines.specs.declared.verb.ScriptVersion.{ScriptVersion}
use Rattle.script_lines.specs.declared.verb.ScriptVersion.TheVariants.{One, Two, Three}
use Rattle.script_lines.specs.declared.verb.Verb.{Verb}
use Rattle.script_text.specs.Bindings.{is_at_medium, is_misplaced, names_block, request_at, request_of, shifts}
use Rattle.script_text.specs.Crossings.{is_read}
use Rattle.script_text.specs.Language.{is_comment, script_in}
use Rattle.script_text.specs.Segments.{are_whole_tuples, is_inside}
use Rattle.script_text.specs.declared.TheConstants.{MOST_LEGS, MOST_OPS}
use Rattle.script_text.specs.declared.fault.ScriptFault.{ScriptFault}
use Rattle.script_text.specs.declared.script.Script.{Script}
use Rattle.script_words.specs.Cuts.{lines_of, words_of}
use Rattle.stack_ops.specs.declared.op.Op.{Op as AnyOp}
use Rattle.stack_ops.specs.declared.op.Op.TheVariants.{Overwrite}
use Rattle.volume_table.specs.Places.{volume_len}
use Rattle.volume_table.specs.declared.entry.Entry.{Entry}
use Rattle.fault_marks.specs.Words.{line_at, text_behind}
use Rattle.fault_marks.specs.declared.closer.Closer.{Closer}
use Rattle.fault_marks.specs.declared.detail.Detail.{Detail}
use Rattle.fault_marks.specs.declared.detail.Detail.TheVariants.{Plain, PastFrame, NoChange, NoShift, NoRequest, NoBlock, ShiftStored, ShiftTwice, ShiftAway, NoWrite, KeptWhole, NamedTwice, NoStored, NoBytes, NoPage, PastPage, LongShow, OtherTotal, Scattered, NoWholeTuple, BadCount, OverLegs, PastVolume, NoTuples, NoBegin, NewLine, ThirdLine, LongText, ManyInner, ManyEntries, ManyLegs, ManyFaults, ManySteps, ManyOps, ManyBlocks, ManySegments}

-- Which of the causes of its kind a fault has, and at which word of its line, counted from 0.

abbrev pub at_word : Detail → (word : ℕ) → Closer
at_word detail word = record { detail = detail; word = word }

-- what the kind says, at the first word
abbrev pub plain : Closer
plain = at_word Plain 0

-- ---- segments

-- why a segment doesn't lie inside one of so many pages
abbrev pub seg_detail : (pages : ℕ) → Seg → Detail
seg_detail pages s = if nat_le pages s.page then NoPage pages else (if eqb s.len 0 then NoBytes else PastPage (s.off + s.len))

abbrev pub seg_by : (pages : ℕ) → List Seg → Option ℕ → Option Detail
seg_by pages segs None = None
seg_by pages segs (Some i) = Some (seg_detail pages (get_or segs i (record { page = 0; off = 0; len = 0 })))

-- the first segment that doesn't lie inside
abbrev pub outside : (pages : ℕ) → List Seg → Option Detail
outside pages segs = seg_by pages segs (position (λ s. not (is_inside pages s)) segs)

-- segments that have other bytes together than are wanted; lists of more than 512 aren't added up
abbrev pub other_total : (wanted : ℕ) → List Seg → Option Detail
other_total wanted segs = if nat_lt 512 (length segs) then None else (if eqb (total segs) wanted then None else Some (OtherTotal wanted (total segs)))

abbrev pub or_detail : Option Detail → Option Detail → Option Detail
or_detail None other = other
or_detail (Some d) other = Some d

-- what is wrong with a list: a segment outside, or the bytes of all
abbrev pub list_detail : (pages wanted : ℕ) → List Seg → Option Detail
list_detail pages wanted segs = or_detail (outside pages segs) (other_total wanted segs)

abbrev pub or_closer : Option Detail → (word : ℕ) → Closer → Closer
or_closer None word rest = rest
or_closer (Some d) word rest = at_word d word

-- the data of n blocks, at this word: a segment, the bytes of all, or a block in more than four of them
abbrev pub data_closer : (pages size n : ℕ) → List Seg → (word : ℕ) → Closer
data_closer pages size n body word = or_closer (list_detail pages (size * n) body) word (at_word Scattered word)

-- the tuples, at the word behind the data
abbrev pub tuples_closer : (pages n : ℕ) → List Seg → (word : ℕ) → Closer
tuples_closer pages n tuples word = or_closer (list_detail pages (TUPLE * n) tuples) (word + 1) (if are_whole_tuples tuples then at_word Scattered word else at_word NoWholeTuple (word + 1))

-- both
abbrev pub both_closer : (pages size n : ℕ) → (body tuples : List Seg) → (word : ℕ) → Closer
both_closer pages size n body tuples word = or_closer (list_detail pages (size * n) body) word (tuples_closer pages n tuples word)

-- ---- a line of a script that has so many pages and blocks of this size

-- an alteration from this offset on, which is this word: past a frame's end, or of zeros alone
abbrev pub flip_closer : (size off : ℕ) → List ℕ → (word : ℕ) → Closer
flip_closer size off bytes word = if nat_lt (size + TUPLE) (off + length bytes) then at_word (PastFrame (size + TUPLE) (off + length bytes)) word else at_word NoChange (word + 1)

abbrev pub show_detail : (pages : ℕ) → Seg → Detail
show_detail pages s = if is_inside pages s then LongShow s.len else seg_detail pages s

abbrev pub segments_closer : (pages size : ℕ) → OpLine → Closer
segments_closer pages size (Fill seg byte) = at_word (seg_detail pages seg) 1
segments_closer pages size (Put page off bytes) = at_word (seg_detail pages (record { page = page; off = off; len = min (length bytes) 512 })) 1
segments_closer pages size (Show seg) = at_word (show_detail pages seg) 1
segments_closer pages size (Seal n body tuples app rtag) = both_closer pages size n body tuples 2
segments_closer pages size (Write v n body app) = data_closer pages size n body 3
segments_closer pages size (Read v n body) = data_closer pages size n body 3
segments_closer pages size (WritePi v n body tuples) = both_closer pages size n body tuples 3
segments_closer pages size (ReadPi v n body tuples) = both_closer pages size n body tuples 3
segments_closer pages size _ = plain

-- N of an op
abbrev pub count_closer : OpLine → Closer
count_closer (Seal n body tuples app rtag) = at_word (BadCount n) 1
count_closer (Write v n body app) = at_word (BadCount n) 2
count_closer (Read v n body) = at_word (BadCount n) 2
count_closer (WritePi v n body tuples) = at_word (BadCount n) 2
count_closer (ReadPi v n body tuples) = at_word (BadCount n) 2
count_closer _ = plain

abbrev pub range_closer : ScriptLine → Closer
range_closer (Op op) = count_closer op
range_closer (Over start len chunk volumes) = at_word OverLegs 0
range_closer _ = plain

abbrev pub alteration_of : (size : ℕ) → OpLine → Closer
alteration_of size (FlipOp dev lba off bytes) = flip_closer size off bytes 4
alteration_of size _ = plain

abbrev pub fault_closer : (size : ℕ) → ScriptLine → Closer
fault_closer size (Flip op k spot off bytes) = flip_closer size off bytes 5
fault_closer size (Shift op spot by) = at_word NoShift 3
fault_closer size (Op op) = alteration_of size op
fault_closer size _ = plain

-- a list of more than 512 segments, at this word
abbrev pub long_list : List Seg → (word : ℕ) → Closer → Closer
long_list segs word rest = if nat_lt 512 (length segs) then at_word (ManySegments (length segs)) word else rest

-- a list is too long, or all requests are
abbrev pub lists_closer : OpLine → Closer
lists_closer (Seal n body tuples app rtag) = long_list body 2 (long_list tuples 3 plain)
lists_closer (Write v n body app) = long_list body 3 (at_word ManyBlocks 2)
lists_closer (Read v n body) = long_list body 3 (at_word ManyBlocks 2)
lists_closer (WritePi v n body tuples) = long_list body 3 (long_list tuples 4 (at_word ManyBlocks 2))
lists_closer (ReadPi v n body tuples) = long_list body 3 (long_list tuples 4 (at_word ManyBlocks 2))
lists_closer _ = plain

-- behind 1,024 ops an op is one too many
abbrev pub many_op : (ops : ℕ) → OpLine → Closer
many_op ops op = if nat_le MOST_OPS ops then at_word ManyOps 0 else lists_closer op

-- an entry with so many legs
abbrev pub many_entry : (legs : ℕ) → Closer
many_entry legs = if nat_lt MOST_LEGS legs then at_word ManyLegs 0 else at_word ManyEntries 0

abbrev pub many_closer : (ops : ℕ) → ScriptLine → Closer
many_closer ops (Inner volume len dev at) = at_word ManyInner 0
many_closer ops (Linear e) = at_word ManyEntries 0
many_closer ops (Stripe start len chunk legs) = many_entry (length legs)
many_closer ops (Over start len chunk volumes) = many_entry (length volumes)
many_closer ops (Flip op k spot off bytes) = at_word ManyFaults 0
many_closer ops (Shift op spot by) = at_word ManyFaults 0
many_closer ops (Keep op k bytes) = at_word ManyFaults 0
many_closer ops (Fail op k) = at_word ManyFaults 0
many_closer ops (Schedule entries) = at_word ManySteps 0
many_closer ops (Op op) = many_op ops op
many_closer ops _ = plain

-- ---- a fault of the text

-- a text's script
abbrev pub script_of : Result Script ScriptFault → Option Script
script_of (Ok script) = Some script
script_of (Err fault) = None

abbrev pub or_script : Option Script → Option Script → Option Script
or_script None other = other
or_script (Some script) other = Some script

-- the script that the lines before one are, if need be with a `begin` behind them
abbrev pub settled : (front : List ℕ) → Option Script
settled front = or_script (script_of (script_in front)) (script_of (script_in (front ++ codes "begin\n")))

-- by what a line says
abbrev pub said_closer : ScriptKind → Script → ScriptLine → Closer
said_closer BadSegments script (Op op) = segments_closer script.pages script.block op
said_closer BadRange script line = range_closer line
said_closer BadFault script line = fault_closer script.block line
said_closer TooMany script line = many_closer (length script.ops) line
said_closer _ script line = plain

abbrev pub form_closer : ScriptKind → Script → Result ScriptLine ScriptKind → Closer
form_closer kind script (Ok line) = said_closer kind script line
form_closer kind script (Err bad) = plain

abbrev pub verb_closer : ScriptKind → Script → Option Verb → List (List ℕ) → Closer
verb_closer kind script None words = plain
verb_closer kind script (Some verb) words = form_closer kind script (line_form verb LARGEST_BLOCK words)

abbrev pub words_closer : ScriptKind → Script → List (List ℕ) → Closer
words_closer kind script [] = plain
words_closer kind script (first ∷ words) = verb_closer kind script (verb_of first) words

abbrev pub line_closer : ScriptKind → Option Script → Option (List ℕ) → Closer
line_closer kind None line = plain
line_closer kind (Some script) None = plain
line_closer kind (Some script) (Some line) = words_closer kind script (words_of line)

-- ---- a line out of its place

-- the version of a first line, of which these words are left behind the first, is this one
abbrev pub is_version : (version : List ℕ) → List (List ℕ) → Bool
is_version version [] = false
is_version version (said ∷ words) = bytes_eq said version

abbrev pub says_by : (version : List ℕ) → List (List ℕ) → Bool → Bool
says_by version [] rest = rest
says_by version (first ∷ words) rest = if is_comment first then rest else is_version version words

-- what a line tells of the version, or else what those behind it tell
abbrev pub told_or : Option Bool → Bool → Bool
told_or None rest = rest
told_or (Some told) rest = told

-- the first line that isn't skipped says this version
abbrev pub says : (version : List ℕ) → List (List ℕ) → Bool
says version [] = false
says version (line ∷ lines) = says_by version (words_of line) (says version lines)

abbrev pub brought_by : Option Verb → ScriptVersion
brought_by None = One
brought_by (Some verb) = version_of_verb verb

-- the version that brought such a line; version 1 where it is none
abbrev pub line_version : List (List ℕ) → ScriptVersion
line_version [] = One
line_version (first ∷ words) = brought_by (verb_of first)

-- a line that this version brought, in a script of an earlier one
abbrev pub early_closer : (text : List ℕ) → ScriptVersion → Closer
early_closer text One = plain
early_closer text Two = if says (codes "1") (lines_of text) then at_word NewLine 0 else plain
early_closer text Three = if says (codes "3") (lines_of text) then plain else at_word ThirdLine 0

abbrev pub order_closer : (text : List ℕ) → Option (List ℕ) → Closer
order_closer text None = at_word NoBegin 0
order_closer text (Some line) = early_closer text (line_version (words_of line))

-- ---- a fault of a script over its volume

abbrev pub shift_closer : (earlier : List FaultLine) → FaultLine → (reads : Bool) → Closer
shift_closer earlier f reads = if is_misplaced reads f.at then at_word ShiftStored 2 else (if list_any (shifts f.op) earlier then at_word ShiftTwice 1 else at_word ShiftAway 3)

-- a block that is lost or torn, of a script of blocks of this size: what isn't the op or an earlier line is LEN, on a unit without tuples
abbrev pub keep_closer : (size : ℕ) → (earlier : List FaultLine) → FaultLine → Closer
keep_closer size earlier f = if not (is_at_medium f.at) then at_word NoWrite 1 else (if list_any (names_block f.op f.k) earlier then at_word NamedTwice 2 else at_word (KeptWhole size) 3)

abbrev pub kind_closer : (size : ℕ) → (earlier : List FaultLine) → FaultLine → (reads : Bool) → FaultKind → Closer
kind_closer size earlier f reads (FlipKind off bytes) = plain
kind_closer size earlier f reads (ShiftKind by) = shift_closer earlier f reads
kind_closer size earlier f reads (KeepKind bytes) = keep_closer size earlier f
kind_closer size earlier f reads FailKind = at_word NamedTwice 2

abbrev pub request_closer : (size : ℕ) → (earlier : List FaultLine) → FaultLine → (reads : Bool) → Option (ℕ × ℕ) → Closer
request_closer size earlier f reads None = at_word NoRequest 1
request_closer size earlier f reads (Some request) = if nat_le request.1 f.k then at_word (NoBlock request.1) 2 else kind_closer size earlier f reads f.kind

abbrev pub bound_fault : Script → (i : ℕ) → Option FaultLine → Closer
bound_fault script i None = plain
bound_fault script i (Some f) = request_closer script.block (take i script.faults) f (is_read script.ops f.op) (request_at script.ops f.op)

-- a number that may be above all numbers of 64 bits, which is then told as the highest of them
abbrev pub told_number : ℕ → ℕ
told_number n = min n (2 ^ 64 - 1)

-- a request past the end of a volume: how many blocks that has, and which the request wants
abbrev pub past_volume : List Entry → Option (ℕ × ℕ) → Closer
past_volume entries None = plain
past_volume entries (Some request) = at_word (PastVolume (told_number (volume_len entries)) request.0 (told_number (request.0 + (request.1 - 1)))) 1

abbrev pub bound_op : List Entry → Option AnyOp → Closer
bound_op entries None = plain
bound_op entries (Some (Overwrite dev lba change)) = at_word NoStored 1
bound_op entries (Some op) = past_volume entries (request_of op)

abbrev pub bound_line : Script → Option ℕ → Closer
bound_line script None = plain
bound_line script (Some i) = if nat_lt i (length script.faults) then bound_fault script i (slice_get script.faults i) else bound_op script.entries (slice_get script.ops (i - length script.faults))

-- the numbers of the lines of the faults stand before those of the ops
abbrev pub bound_closer : ScriptKind → Script → (line : ℕ) → Closer
bound_closer NoIntegrity script line = at_word NoTuples 0
bound_closer kind script line = bound_line script (position (eqb line) script.lines)

-- ---- a fault

abbrev pub read_closer : Option Script → (text : List ℕ) → ScriptFault → Closer
read_closer (Some script) text fault = bound_closer fault.kind script fault.line
read_closer None text fault = line_closer fault.kind (settled (take (length text - length (text_behind (fault.line - 1) text)) text)) (line_at fault.line text)

-- of a text that is a script the fault is one over its volume
abbrev pub asked_closer : (text : List ℕ) → ScriptFault → Closer
asked_closer text fault = read_closer (script_of (script_in text)) text fault

-- a fault of line 0 is that the text is too long
abbrev pub numbered : (text : List ℕ) → ScriptFault → Closer
numbered text fault = if eqb fault.line 0 then at_word LongText 0 else asked_closer text fault

abbrev pub closer_by : ScriptKind → (text : List ℕ) → ScriptFault → Closer
closer_by OutOfPlace text fault = order_closer text (line_at fault.line text)
closer_by TooMany text fault = numbered text fault
closer_by BadSegments text fault = numbered text fault
closer_by BadRange text fault = numbered text fault
closer_by BadFault text fault = numbered text fault
closer_by NoIntegrity text fault = numbered text fault
closer_by _ text fault = plain

-- the cause of the fault of a text, or of its script over its volume, and the word at which it is
abbrev pub closer_of : (text : List ℕ) → ScriptFault → Closer
closer_of text fault = closer_by fault.kind text fault
