use Rattle.std.specs.Prelude.{ℕ, Bool, true, false, ◌||◌, eqb, if◌then◌else◌, List, codes, Option, Some, None}
use Rattle.std.specs.Str.{bytes_eq}
use Rattle.script_lines.specs.declared.verb.Verb.{Verb}
use Rattle.script_lines.specs.declared.verb.Verb.TheVariants.{Dix, Mode, Limits, Pages, Block, Expect, Inner, Linear, Stripe, Over, Fault, Shift, Lose, Tear, Fail, Schedule, Begin, Fill, Put, Show, Seal, Write, Read, WritePi, ReadPi, Overwrite, Wait}
use Rattle.script_lines.specs.declared.verb.ScriptVersion.{ScriptVersion}
use Rattle.script_lines.specs.declared.verb.ScriptVersion.TheVariants.{One, Two, Three}
use Rattle.script_lines.specs.declared.verb.Section.{Section}
use Rattle.script_lines.specs.declared.verb.Section.TheVariants.{Dix as AtDix, Mode as AtMode, Limits as AtLimits, Pages as AtPages, Block as AtBlock, Expect as AtExpect, Inner as AtInner, Volume as AtVolume, Fault as AtFault, Schedule as AtSchedule, Begin as AtBegin, Op as AtOp}

-- requests and other ops
abbrev pub request_verb_of : List ℕ → Option Verb
request_verb_of word =
    if bytes_eq word (codes "write") then Some Write
    else (if bytes_eq word (codes "read") then Some Read
    else (if bytes_eq word (codes "writepi") then Some WritePi
    else (if bytes_eq word (codes "readpi") then Some ReadPi
    else (if bytes_eq word (codes "overwrite") then Some Overwrite
    else (if bytes_eq word (codes "wait") then Some Wait
    else None)))))

-- the schedule, `begin` and ops on pages
abbrev pub page_verb_of : List ℕ → Option Verb
page_verb_of word =
    if bytes_eq word (codes "schedule") then Some Schedule
    else (if bytes_eq word (codes "begin") then Some Begin
    else (if bytes_eq word (codes "fill") then Some Fill
    else (if bytes_eq word (codes "put") then Some Put
    else (if bytes_eq word (codes "show") then Some Show
    else (if bytes_eq word (codes "seal") then Some Seal
    else request_verb_of word)))))

-- what a line of the volume or of a fault with this first word is
abbrev pub volume_verb_of : List ℕ → Option Verb
volume_verb_of word =
    if bytes_eq word (codes "inner") then Some Inner
    else (if bytes_eq word (codes "linear") then Some Linear
    else (if bytes_eq word (codes "stripe") then Some Stripe
    else (if bytes_eq word (codes "over") then Some Over
    else (if bytes_eq word (codes "fault") then Some Fault
    else (if bytes_eq word (codes "shift") then Some Shift
    else (if bytes_eq word (codes "lose") then Some Lose
    else (if bytes_eq word (codes "tear") then Some Tear
    else (if bytes_eq word (codes "fail") then Some Fail
    else page_verb_of word))))))))

-- what a line with this first word is
abbrev pub verb_of : List ℕ → Option Verb
verb_of word =
    if bytes_eq word (codes "dix") then Some Dix
    else (if bytes_eq word (codes "mode") then Some Mode
    else (if bytes_eq word (codes "limits") then Some Limits
    else (if bytes_eq word (codes "pages") then Some Pages
    else (if bytes_eq word (codes "block") then Some Block
    else (if bytes_eq word (codes "expect") then Some Expect
    else volume_verb_of word)))))

-- where a line stands among the others
abbrev pub section_of : Verb → Section
section_of Dix = AtDix
section_of Mode = AtMode
section_of Limits = AtLimits
section_of Pages = AtPages
section_of Block = AtBlock
section_of Expect = AtExpect
section_of Inner = AtInner
section_of Linear = AtVolume
section_of Stripe = AtVolume
section_of Over = AtVolume
section_of Fault = AtFault
section_of Shift = AtFault
section_of Lose = AtFault
section_of Tear = AtFault
section_of Fail = AtFault
section_of Schedule = AtSchedule
section_of Begin = AtBegin
section_of Fill = AtOp
section_of Put = AtOp
section_of Show = AtOp
section_of Seal = AtOp
section_of Write = AtOp
section_of Read = AtOp
section_of WritePi = AtOp
section_of ReadPi = AtOp
section_of Overwrite = AtOp
section_of Wait = AtOp

-- the first version that has such lines
abbrev pub version_of_verb : Verb → ScriptVersion
version_of_verb Block = Two
version_of_verb Expect = Two
version_of_verb Inner = Two
version_of_verb Over = Two
version_of_verb Lose = Three
version_of_verb Tear = Three
version_of_verb Fail = Three
version_of_verb _ = One

-- A script of the first version may have the lines that the second brought: each has those of the versions before it.
abbrev pub has_lines_of : (own brought : ScriptVersion) → Bool
has_lines_of One One = true
has_lines_of One Two = false
has_lines_of One Three = false
has_lines_of Two One = true
has_lines_of Two Two = true
has_lines_of Two Three = false
has_lines_of Three brought = true

-- later than version 1
abbrev pub is_new : ScriptVersion → Bool
is_new One = false
is_new Two = true
is_new Three = true

abbrev pub section_number : Section → ℕ
section_number AtDix = 0
section_number AtMode = 1
section_number AtLimits = 2
section_number AtPages = 3
section_number AtBlock = 4
section_number AtExpect = 5
section_number AtInner = 6
section_number AtVolume = 7
section_number AtFault = 8
section_number AtSchedule = 9
section_number AtBegin = 10
section_number AtOp = 11

abbrev pub is_section : Section → Section → Bool
is_section a b = eqb (section_number a) (section_number b)

-- Whether a line of the second section may stand right behind one of the first, in a script of a version later than 1 or of version 1.
abbrev pub comes_before : Section → Section → Bool → Bool
comes_before AtDix next is_new = is_section next AtMode
comes_before AtMode next is_new = is_section next AtLimits
comes_before AtLimits next is_new = is_section next AtPages
comes_before AtPages next true = is_section next AtBlock
comes_before AtPages next false = is_section next AtVolume
comes_before AtBlock next is_new = is_section next AtExpect || (is_section next AtInner || is_section next AtVolume)
comes_before AtExpect next is_new = is_section next AtInner || is_section next AtVolume
comes_before AtInner next is_new = is_section next AtInner || is_section next AtVolume
comes_before AtVolume next is_new = is_section next AtVolume || (is_section next AtFault || (is_section next AtSchedule || is_section next AtBegin))
comes_before AtFault next is_new = is_section next AtFault || (is_section next AtSchedule || is_section next AtBegin)
comes_before AtSchedule next is_new = is_section next AtSchedule || is_section next AtBegin
comes_before AtBegin next is_new = is_section next AtOp
comes_before AtOp next is_new = is_section next AtOp
