use Rattle.std.specs.Prelude.{ℕ, ◌+◌, ◌&&◌, Bool, eqb, if◌then◌else◌, List, [], ◌∷◌, ◌++◌, codes, decimal}
use Rattle.fault_schedule.specs.declared.Label.{Label}
use Rattle.rig_api.specs.Log.{LogEntry}
use Rattle.report_text.specs.Report.{report, why_text}
use Rattle.stack_ops.specs.declared.reply.BadBlock.{BadBlock}
use Rattle.stack_ops.specs.declared.reply.Reply.{Reply}
use Rattle.stack_ops.specs.declared.reply.Reply.TheVariants.{Silent, Whole, Bad, Shown, Medium}
use Rattle.script_text.specs.declared.script.Script.{Script}
use Rattle.volume_table.specs.Places.{place_in}
use Rattle.volume_table.specs.declared.entry.Entry.{Entry as Extent}
use Rattle.run_words.specs.Commands.{command_line}
use Rattle.run_words.specs.Lies.{Book, all_moved, book_of}
use Rattle.run_words.specs.Sites.{site_of, sites_of}
use Rattle.run_words.specs.Unseen.{all_lines}
use Rattle.run_words.specs.declared.guide.OpSite.{OpSite}
use Rattle.run_words.specs.declared.labels.Run.{Run}

-- What a report means.

-- ---- records

-- a run of neighbouring blocks of one op begins
abbrev pub begun : Label → Run
begun l = record { op = l.op; first = l.k; last = l.k }

-- The next block of the same op has this label.
abbrev pub goes_on : Run → Label → Bool
goes_on r l = eqb l.op r.op && eqb l.k (r.last + 1)

abbrev pub longer : Run → Label → Run
longer r l = record { op = r.op; first = r.first; last = l.k }

-- the run that the next label carries on, or that it begins
abbrev pub next_run : Run → Label → Run
next_run r l = if goes_on r l then longer r l else begun l

abbrev pub runs_from : Run → List Label → List Run
runs_from r [] = r ∷ []
runs_from r (l ∷ ls) = if goes_on r l then runs_from (next_run r l) ls else r ∷ runs_from (next_run r l) ls

-- the longest runs of labels of one op with neighbouring blocks
abbrev pub runs_of : List Label → List Run
runs_of [] = []
runs_of (l ∷ ls) = runs_from (begun l) ls

-- the op of a run, the line on which it stands, and its blocks
abbrev pub run_line : List OpSite → Run → List ℕ
run_line sites r =
    codes "  op " ++ (decimal r.op ++ (codes " line " ++ (decimal (site_of sites r.op).line ++ (codes " blocks " ++ (decimal r.first ++ (codes " to " ++ (decimal r.last ++ codes "\n")))))))

abbrev pub run_lines : List OpSite → List Run → List ℕ
run_lines sites [] = []
run_lines sites (r ∷ rs) = run_line sites r ++ run_lines sites rs

-- the line of a run that the next label doesn't carry on
abbrev pub ended_lines : List OpSite → Run → Label → List ℕ
ended_lines sites r l = if goes_on r l then [] else run_line sites r

-- the command of a record, and whose blocks it carried
abbrev pub entry_lines : (number : ℕ) → List OpSite → LogEntry → List ℕ
entry_lines number sites e = command_line number e.what ++ run_lines sites (runs_of e.labels)

-- the lines of these records, the first of which has this number
abbrev pub record_lines : (number : ℕ) → List OpSite → List LogEntry → List ℕ
record_lines number sites [] = []
record_lines number sites (e ∷ es) = entry_lines number sites e ++ record_lines (number + 1) sites es

-- ---- listed blocks

-- a listed block of the op of this number: its line, and its virtual block
abbrev pub listed_front : (number : ℕ) → OpSite → BadBlock → (v : ℕ) → List ℕ
listed_front number s b v = codes "bad " ++ (decimal number ++ (codes " " ++ (decimal b.k ++ (codes " line " ++ (decimal s.line ++ (codes " virtual " ++ decimal v))))))

-- where that lies, and why it is listed
abbrev pub listed_words : (number : ℕ) → OpSite → BadBlock → (v : ℕ) → (place : ℕ × ℕ) → List ℕ
listed_words number s b v place = listed_front number s b v ++ (codes " dev " ++ (decimal place.0 ++ (codes " at " ++ (decimal place.1 ++ (codes " " ++ (why_text b.why ++ codes "\n"))))))

abbrev pub listed_line : List Extent → (number : ℕ) → OpSite → BadBlock → List ℕ
listed_line entries number s b = listed_words number s b (s.first + b.k) (place_in entries (s.first + b.k))

abbrev pub listed_lines : List Extent → (number : ℕ) → OpSite → List BadBlock → List ℕ
listed_lines entries number s [] = []
listed_lines entries number s (b ∷ bs) = listed_line entries number s b ++ listed_lines entries number s bs

abbrev pub reply_lines : List Extent → (number : ℕ) → OpSite → Reply → List ℕ
reply_lines entries number s Silent = []
reply_lines entries number s Whole = []
reply_lines entries number s (Bad blocks) = listed_lines entries number s blocks
reply_lines entries number s (Shown bytes) = []
reply_lines entries number s Medium = []

-- the lines of all listed blocks of these ops, the first of which has this number
abbrev pub all_listed : List Extent → (number : ℕ) → List OpSite → List Reply → List ℕ
all_listed entries number [] replies = []
all_listed entries number (s ∷ sites) [] = []
all_listed entries number (s ∷ sites) (r ∷ replies) = reply_lines entries number s r ++ all_listed entries (number + 1) sites replies

-- ---- all of it

-- the records of a call, and the listed blocks
abbrev pub words_text : List OpSite → List Extent → (records : List LogEntry) → List Reply → List ℕ
words_text sites entries records replies = record_lines 0 sites records ++ all_listed entries 1 sites replies

-- behind the report; and which blocks of reads aren't what was last accepted, though nobody lists them
abbrev pub explained_by : List OpSite → List Extent → Book → (records : List LogEntry) → List Reply → List ℕ
explained_by sites entries b records replies = report replies ++ (words_text sites entries records replies ++ all_lines sites entries b (all_moved b.size records) replies)

-- the same of a script
abbrev pub explained_text : Script → (records : List LogEntry) → List Reply → List ℕ
explained_text script records replies = explained_by (sites_of script) script.entries (book_of script) records replies
