-- The text of a sweep, by its verdicts.
use Rattle.std.specs.Prelude.{ℕ, ◌+◌, ◌^◌, ◌<◌, ◌≤◌, if◌then◌else◌, List, [], ◌∷◌, ◌++◌, codes, decimal}
use Rattle.bio_core.specs.declared.fate.Why.TheVariants.{Target}
use Rattle.report_text.specs.Report.{why_text}
use Rattle.script_laws.specs.Lines.{spot_word}
use Rattle.flip_sweep.specs.Verdicts.{is_same_verdict}
use Rattle.flip_sweep.specs.declared.counts.Counts.{Counts}
use Rattle.flip_sweep.specs.declared.flips.Site.{Site}
use Rattle.flip_sweep.specs.declared.stretch.Stretch.{Stretch}
use Rattle.flip_sweep.specs.declared.verdict.Verdict.{Verdict}
use Rattle.flip_sweep.specs.declared.verdict.Verdict.TheVariants.{Found, Scrub, Same, Unseen}

-- ---- stretches

abbrev pub stretch : (first last : ℕ) → Verdict → Stretch
stretch first last v = record { first = first; last = last; verdict = v }

-- the stretch with the next byte
abbrev pub longer : Stretch → Stretch
longer s = stretch s.first (s.last + 1) s.verdict

-- the stretch that begins behind it
abbrev pub next : Stretch → Verdict → Stretch
next s v = stretch (s.last + 1) (s.last + 1) v

-- the stretches of bytes with one verdict, of which this one is open and the verdicts behind it are these
abbrev pub stretches_on : Stretch → List Verdict → List Stretch
stretches_on s [] = s ∷ []
stretches_on s (v ∷ vs) = if is_same_verdict s.verdict v then stretches_on (longer s) vs else s ∷ stretches_on (next s v) vs

-- the longest stretches of bytes with one verdict, by the verdicts of all bytes of a frame
abbrev pub stretches : List Verdict → List Stretch
stretches [] = []
stretches (v ∷ vs) = stretches_on (stretch 0 0 v) vs

-- ---- lines

abbrev pub verdict_text : Verdict → List ℕ
verdict_text (Found op k why) = codes "found " ++ (decimal op ++ (codes " " ++ (decimal k ++ (codes " " ++ why_text why))))
verdict_text (Scrub dev lba check) = codes "scrub " ++ (decimal dev ++ (codes " " ++ (decimal lba ++ (codes " " ++ why_text (Target check)))))
verdict_text Same = codes "same"
verdict_text Unseen = codes "unseen"

-- the line of a stretch
abbrev pub row : Site → Stretch → List ℕ
row at s =
    decimal at.op ++ (codes " " ++ (decimal at.k ++ (codes " " ++ (spot_word at.spot ++ (codes " " ++ (decimal s.first ++ (codes " " ++ (decimal s.last ++ (codes " " ++ (verdict_text s.verdict ++ codes "\n"))))))))))

abbrev pub rows : Site → List Stretch → List ℕ
rows at [] = []
rows at (s ∷ ss) = row at s ++ rows at ss

-- the stretch that is open behind the next byte, and the line that is written before it
abbrev pub next_open : Stretch → Verdict → Stretch
next_open s v = if is_same_verdict s.verdict v then longer s else next s v

abbrev pub row_before : Site → Stretch → Verdict → List ℕ
row_before at s v = if is_same_verdict s.verdict v then [] else row at s

-- ---- counts

abbrev pub none_yet : Counts
none_yet = record { runs = 0; found = 0; scrub = 0; same = 0; unseen = 0 }

-- So many more can be counted.
pub record IsSmall (c : Counts) (n : ℕ) : Type 0 where
  pub runs : c.runs + n < 2 ^ 64
  pub found : c.found ≤ c.runs
  pub scrub : c.scrub ≤ c.runs
  pub same : c.same ≤ c.runs
  pub unseen : c.unseen ≤ c.runs

-- the counts with this verdict more
abbrev pub counted : Counts → Verdict → Counts
counted c (Found op k why) = record c { runs = c.runs + 1; found = c.found + 1 }
counted c (Scrub dev lba check) = record c { runs = c.runs + 1; scrub = c.scrub + 1 }
counted c Same = record c { runs = c.runs + 1; same = c.same + 1 }
counted c Unseen = record c { runs = c.runs + 1; unseen = c.unseen + 1 }

abbrev pub all_counted : Counts → List Verdict → Counts
all_counted c [] = c
all_counted c (v ∷ vs) = all_counted (counted c v) vs

abbrev pub first_line : List ℕ
first_line = codes "dix sweep 1\n"

-- the last line
abbrev pub last_line : Counts → List ℕ
last_line c =
    codes "runs " ++ (decimal c.runs ++ (codes " found " ++ (decimal c.found ++ (codes " scrub " ++ (decimal c.scrub ++ (codes " same " ++ (decimal c.same ++ (codes " unseen " ++ (decimal c.unseen ++ codes "\n")))))))))
