use Rattle.std.specs.Prelude.{ℕ, ◌≡◌, ◌⊎◌, ◌+◌, Bool, true, false, not, ◌||◌, ◌&&◌, eqb, nat_lt, if◌then◌else◌, List, [], ◌∷◌, ◌++◌, length, map, codes, Option, Some, None, Result, Ok, Err}
use Rattle.std.specs.Str.{bytes_eq}
use Rattle.pi_guard.specs.declared.GuardKind.TheVariants.{Crc}
use Rattle.fault_schedule.specs.declared.fault.FaultKind.TheVariants.{Flip as FlipKind, Shift as ShiftKind, Keep as KeepKind, Fail as FailKind}
use Rattle.script_words.specs.Cuts.{is_plain, lines_of, words_of}
use Rattle.script_lines.specs.declared.kind.ScriptKind.{ScriptKind}
use Rattle.script_lines.specs.declared.kind.ScriptKind.TheVariants.{NotAscii, LongLine, UnknownWord, OutOfPlace, TooMany, NoHeader, Memory}
use Rattle.block_path.specs.declared.mode.Mode.{Mode as FullMode}
use Rattle.script_lines.specs.declared.line.ModeLine.{ModeLine}
use Rattle.script_lines.specs.declared.line.OpLine.{OpLine}
use Rattle.script_lines.specs.declared.line.ScriptLine.{ScriptLine}
use Rattle.script_lines.specs.declared.line.ScriptLine.TheVariants.{Mode, Limits, Pages, Block, Expect, Inner, Linear, Stripe, Over, Flip, Shift, Keep, Fail, Schedule, Begin, Op}
use Rattle.script_lines.specs.declared.line.Spot.TheVariants.{Medium}
use Rattle.script_lines.specs.declared.verb.Verb.{Verb}
use Rattle.script_lines.specs.declared.verb.ScriptVersion.{ScriptVersion}
use Rattle.script_lines.specs.declared.verb.ScriptVersion.TheVariants.{One, Two, Three}
use Rattle.script_lines.specs.declared.verb.Section.{Section}
use Rattle.script_lines.specs.declared.verb.Section.TheVariants.{Dix as AtDix, Begin as AtBegin, Op as AtOp}
use Rattle.script_lines.specs.Forms.{line_form}
use Rattle.script_lines.specs.Reading.{◌>>=◌}
use Rattle.script_lines.specs.Verbs.{comes_before, has_lines_of, is_new, section_of, verb_of, version_of_verb}
use Rattle.volume_table.specs.declared.entry.Entry.{Entry}
use Rattle.volume_table.specs.declared.entry.Entry.TheVariants.{Linear as LinearEntry, Stripe as StripeEntry}
use Rattle.stack_ops.specs.declared.op.Op.{Op as AnyOp}
use Rattle.script_text.specs.declared.raw_fault.RawFault.{RawFault}
use Rattle.script_text.specs.declared.trees.Inner.{Inner as Extent}
use Rattle.script_text.specs.declared.fault.ScriptFault.{ScriptFault}
use Rattle.script_text.specs.declared.script.Script.{Script}
use Rattle.script_text.specs.Crossings.{crossed, is_third}
use Rattle.script_text.specs.Drafts.{Drafted}
use Rattle.script_text.specs.Ops.{op_in}
use Rattle.script_text.specs.Rules.{broken_rule, request_blocks}
use Rattle.script_text.specs.Trees.{entries_over}
use Rattle.dix_base.specs.declared.reading.TheConstants.{LONGEST_LINE, MOST_BYTES}

-- The language of scripts: what reading a text answers, a script or the first fault.

-- before any line
abbrev pub nothing_read : Drafted
nothing_read = record {
  version = One;
  section = None;
  mode = record { kind = Crc; dix = false; dif = false; protect = 1 };
  app = 0;
  mask = 0;
  expect_line = 0;
  limits = record { max_blocks = 1; max_segs = 4; max_pi_segs = 1 };
  pages = 1;
  block = 512;
  inner = [];
  entries = [];
  faults = [];
  schedule = [];
  ops = [];
  blocks = 0;
  fault_lines = [];
  op_lines = [];
}

abbrev pub with_entries : Drafted → List Entry → Result Drafted ScriptKind
with_entries d found = if nat_lt 16 (length d.entries + length found) then Err TooMany else Ok (record d { entries = d.entries ++ found })

abbrev pub inner_taken : Extent → Drafted → Result Drafted ScriptKind
inner_taken e d = Ok (record d { inner = d.inner ++ (e ∷ []) })

abbrev pub entry_taken : Entry → Drafted → Result Drafted ScriptKind
entry_taken e d = Ok (record d { entries = d.entries ++ (e ∷ []) })

abbrev pub over_taken : (start len chunk : ℕ) → List ℕ → Drafted → Result Drafted ScriptKind
over_taken start len chunk volumes d = entries_over d.inner start len chunk volumes >>= with_entries d

abbrev pub fault_taken : ℕ → RawFault → Drafted → Result Drafted ScriptKind
fault_taken number f d = Ok (record d { faults = d.faults ++ (f ∷ []); fault_lines = d.fault_lines ++ (number ∷ []) })

abbrev pub schedule_taken : List (ℕ × ℕ) → Drafted → Result Drafted ScriptKind
schedule_taken entries d = Ok (record d { schedule = d.schedule ++ entries })

abbrev pub with_op : ℕ → OpLine → Drafted → AnyOp → Result Drafted ScriptKind
with_op number line d op = Ok (record d { ops = d.ops ++ (op ∷ []); blocks = d.blocks + request_blocks line; op_lines = d.op_lines ++ (number ∷ []) })

abbrev pub op_taken : ℕ → OpLine → Drafted → Result Drafted ScriptKind
op_taken number line d = op_in d.pages d.block line >>= with_op number line d

-- what is read with the line of a fault; any other line adds none
abbrev pub fault_line_taken : ℕ → ScriptLine → Drafted → Result Drafted ScriptKind
fault_line_taken number (Flip op k spot off bytes) d = fault_taken number (record { op = op; k = k; spot = spot; kind = FlipKind off bytes }) d
fault_line_taken number (Shift op spot by) d = fault_taken number (record { op = op; k = 0; spot = spot; kind = ShiftKind by }) d
fault_line_taken number (Keep op k bytes) d = fault_taken number (record { op = op; k = k; spot = Medium; kind = KeepKind bytes }) d
fault_line_taken number (Fail op k) d = fault_taken number (record { op = op; k = k; spot = Medium; kind = FailKind }) d
fault_line_taken number line d = Ok d

-- what is read with a line of the volume, or of a fault
abbrev pub volume_line_taken : ℕ → ScriptLine → Drafted → Result Drafted ScriptKind
volume_line_taken number (Inner volume len dev at) d = inner_taken (record { volume = volume; len = len; dev = dev; at = at }) d
volume_line_taken number (Linear e) d = entry_taken (LinearEntry e) d
volume_line_taken number (Stripe start len chunk legs) d = entry_taken (StripeEntry (record { start = start; len = len; chunk = chunk; legs = legs })) d
volume_line_taken number (Over start len chunk volumes) d = over_taken start len chunk volumes d
volume_line_taken number line d = fault_line_taken number line d

-- what is read with a line of this number that keeps the other rules; `begin` adds nothing
unfoldable pub taken : ℕ → ScriptLine → Drafted → Result Drafted ScriptKind
taken number (Mode m) d = Ok (record d { mode = m })
taken number (Limits l) d = Ok (record d { limits = l })
taken number (Pages n) d = Ok (record d { pages = n })
taken number (Block size) d = Ok (record d { block = size })
taken number (Expect app mask) d = Ok (record d { app = app; mask = mask; expect_line = number })
taken number (Schedule entries) d = schedule_taken entries d
taken number (Op line) d = op_taken number line d
taken number line d = volume_line_taken number line d

-- a line of this verb may stand behind one of this section
abbrev pub is_behind : ScriptVersion → Verb → Option Section → Bool
is_behind version verb None = false
is_behind version verb (Some section) = has_lines_of version (version_of_verb verb) && comes_before section (section_of verb) (is_new version)

abbrev pub unless_broken : Option ScriptKind → Result Drafted ScriptKind → Result Drafted ScriptKind
unless_broken None r = r
unless_broken (Some k) r = Err k

abbrev pub in_section : Verb → Drafted → Result Drafted ScriptKind
in_section verb d = Ok (record d { section = Some (section_of verb) })

-- a line of this verb, in its section, with these words behind the first
unfoldable pub line_taken : ℕ → Verb → List (List ℕ) → Drafted → Result Drafted ScriptKind
line_taken number verb words d = do
  line ← line_form verb d.block words
  next ← unless_broken (broken_rule d line) (taken number line d)
  in_section verb next

abbrev pub verb_taken : ℕ → Option Verb → List (List ℕ) → Drafted → Result Drafted ScriptKind
verb_taken number None words d = Err UnknownWord
verb_taken number (Some verb) words d = if is_behind d.version verb d.section then line_taken number verb words d else Err OutOfPlace

abbrev pub version_in : List ℕ → Option ScriptVersion
version_in word =
    if bytes_eq word (codes "1") then Some One
    else (if bytes_eq word (codes "2") then Some Two
    else (if bytes_eq word (codes "3") then Some Three else None))

-- the version of the first line that isn't skipped: `dix 1`, `dix 2` or `dix 3`
abbrev pub version_of : List (List ℕ) → Option ScriptVersion
version_of (dix ∷ version ∷ []) = if not (bytes_eq dix (codes "dix")) then None else version_in version
version_of _ = None

abbrev pub header_taken : Option ScriptVersion → Drafted → Result Drafted ScriptKind
header_taken None d = Err NoHeader
header_taken (Some version) d = Ok (record d { version = version; section = Some AtDix })

abbrev pub words_behind : Option Section → ℕ → List (List ℕ) → Drafted → Result Drafted ScriptKind
words_behind None number words d = header_taken (version_of words) d
words_behind (Some section) number [] d = Ok d
words_behind (Some section) number (first ∷ words) d = verb_taken number (verb_of first) words d

-- A line is skipped that has no words, or whose first word begins with a number sign.
abbrev pub is_comment : List ℕ → Bool
is_comment [] = false
is_comment (b ∷ bs) = eqb b 35

abbrev pub words_taken : ℕ → List (List ℕ) → Drafted → Result Drafted ScriptKind
words_taken number [] d = Ok d
words_taken number (first ∷ words) d = if is_comment first then Ok d else words_behind d.section number (first ∷ words) d

-- what is read with a line of this number
abbrev pub text_taken : ℕ → List ℕ → Drafted → Result Drafted ScriptKind
text_taken number line d =
    if not (is_plain line) then Err NotAscii
    else (if nat_lt LONGEST_LINE (length line) then Err LongLine else words_taken number (words_of line) d)

-- what is wrong with the end of the text
abbrev pub end_fault : Option Section → Option ScriptKind
end_fault None = Some NoHeader
end_fault (Some AtBegin) = None
end_fault (Some AtOp) = None
end_fault (Some _) = Some OutOfPlace

-- a line `mode` with the application tag that is expected
abbrev pub mode_of : ModeLine → (app mask : ℕ) → FullMode
mode_of m app mask = record { kind = m.kind; dix = m.dix; dif = m.dif; protect = m.protect; app = app; mask = mask }

abbrev pub finished : Drafted → Script
finished d = record {
  mode = mode_of d.mode d.app d.mask;
  limits = d.limits;
  pages = d.pages;
  block = d.block;
  expect_line = d.expect_line;
  entries = d.entries;
  faults = map (crossed (is_third d.version) d.ops) d.faults;
  schedule = d.schedule;
  ops = d.ops;
  lines = d.fault_lines ++ d.op_lines;
}

abbrev pub at_end : ℕ → Option ScriptKind → Drafted → Result Script ScriptFault
at_end number (Some k) d = Err (record { line = number; kind = k })
at_end number None d = Ok (finished d)

abbrev pub go_on : ℕ → Result Drafted ScriptKind → (Drafted → Result Script ScriptFault) → Result Script ScriptFault
go_on number (Ok d) rest = rest d
go_on number (Err k) rest = Err (record { line = number; kind = k })

-- The answer to the lines from this number on. The number behind that of the last line is the text's end.
abbrev pub lines_read : ℕ → List (List ℕ) → Drafted → Result Script ScriptFault
lines_read number [] d = at_end number (end_fault d.section) d
lines_read number (line ∷ lines) d = go_on number (text_taken number line d) (λ next. lines_read (number + 1) lines next)

-- the script of a text, or its first fault
abbrev pub script_in : List ℕ → Result Script ScriptFault
script_in text = if nat_lt MOST_BYTES (length text) then Err (record { line = 0; kind = TooMany }) else lines_read 1 (lines_of text) nothing_read

-- A reader gave this and is now so, or wanted memory.
abbrev pub Takes : Result Drafted ScriptKind → Result (Unit {0}) ScriptKind → Drafted → Type 0
Takes want (Ok u) after = want ≡ Ok after
Takes want (Err k) after = (k ≡ Memory) ⊎ (want ≡ Err k)

-- The answer is the language's, or want of memory.
abbrev pub Answers : Result Script ScriptFault → Result Script ScriptFault → Type 0
Answers want (Ok script) = want ≡ Ok script
Answers want (Err fault) = (fault.kind ≡ Memory) ⊎ (want ≡ Err fault)
