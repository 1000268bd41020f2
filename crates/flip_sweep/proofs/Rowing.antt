-- How rows and counts of a sweep grow, byte by byte and crossing by crossing.
use Rattle.std.proofs.Common.{◌≡◌, ℕ, suc, ◌+◌, ◌≤◌, Bool, true, false, List, [], ◌∷◌, ◌++◌, length, refl, arith}
use Rattle.std.specs.Prelude.{if◌then◌else◌}
use Rattle.flip_sweep.specs.Rows.{IsSmall, all_counted, counted, longer, next, next_open, row, row_before, rows, stretches_on}
use Rattle.flip_sweep.specs.Verdicts.{is_same_verdict}
use Rattle.flip_sweep.specs.declared.counts.Counts.{Counts}
use Rattle.flip_sweep.specs.declared.flips.Site.{Site}
use Rattle.flip_sweep.specs.declared.stretch.Stretch.{Stretch}
use Rattle.flip_sweep.specs.declared.verdict.Verdict.{Verdict}
use Rattle.flip_sweep.specs.declared.verdict.Verdict.TheVariants.{Found, Scrub, Same, Unseen}

-- ---- rows

by_same : (b : Bool) (at : Site) (s : Stretch) (v : Verdict) (vs : List Verdict)
    → rows at (if b then stretches_on (longer s) vs else s ∷ stretches_on (next s v) vs) ≡ (if b then [] else row at s) ++ rows at (stretches_on (if b then longer s else next s v) vs)
by_same true at s v vs = refl
by_same false at s v vs = refl

-- the row that is written before the next byte, and those behind it
pub next_rows : (at : Site) (s : Stretch) (v : Verdict) (vs : List Verdict) → rows at (stretches_on s (v ∷ vs)) ≡ row_before at s v ++ rows at (stretches_on (next_open s v) vs)
next_rows at s v vs = by_same (is_same_verdict s.verdict v) at s v vs

last_by : (b : Bool) (s : Stretch) (v : Verdict) → (if b then longer s else next s v).last ≡ s.last + 1
last_by true s v = refl
last_by false s v = refl

pub next_last : (s : Stretch) (v : Verdict) → (next_open s v).last ≡ s.last + 1
next_last s v = last_by (is_same_verdict s.verdict v) s v

-- ---- counts

pub small_next : (c : Counts) (v : Verdict) (n : ℕ) → IsSmall c (n + 1) → IsSmall (counted c v) n
small_next c (Found op k why) n h = let r = h.runs in let a = h.found in let b = h.scrub in let d = h.same in let e = h.unseen in record { runs = omega arith; found = omega arith; scrub = omega arith; same = omega arith; unseen = omega arith }
small_next c (Scrub dev lba check) n h = let r = h.runs in let a = h.found in let b = h.scrub in let d = h.same in let e = h.unseen in record { runs = omega arith; found = omega arith; scrub = omega arith; same = omega arith; unseen = omega arith }
small_next c Same n h = let r = h.runs in let a = h.found in let b = h.scrub in let d = h.same in let e = h.unseen in record { runs = omega arith; found = omega arith; scrub = omega arith; same = omega arith; unseen = omega arith }
small_next c Unseen n h = let r = h.runs in let a = h.found in let b = h.scrub in let d = h.same in let e = h.unseen in record { runs = omega arith; found = omega arith; scrub = omega arith; same = omega arith; unseen = omega arith }

pub small_less : (c : Counts) (n m : ℕ) → m ≤ n → IsSmall c n → IsSmall c m
small_less c n m l h = let r = h.runs in record { runs = omega arith; found = h.found; scrub = h.scrub; same = h.same; unseen = h.unseen }

pub small_all : (c : Counts) (vs : List Verdict) (n : ℕ) → IsSmall c (length vs + n) → IsSmall (all_counted c vs) n
small_all c [] n h = small_less c (length {A = Verdict} [] + n) n (omega arith) h
small_all c (v ∷ vs) n h = small_all (counted c v) vs n (small_next c v (length vs + n) (small_less c (suc (length vs) + n) ((length vs + n) + 1) (omega arith) h))
