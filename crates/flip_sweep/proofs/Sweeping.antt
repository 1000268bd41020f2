-- How the text of a sweep goes on, from byte to byte and from crossing to crossing.
use Rattle.std.proofs.Common.{◌≡◌, ℕ, zero, suc, ◌+◌, ◌*◌, ◌-◌, ◌<◌, ◌≤◌, List, [], ◌∷◌, ◌++◌, length, refl, sym, ap, subst, ◌∙◌, arith}
use Rattle.flip_sweep.specs.Rows.{IsSmall, all_counted, counted, next_open, none_yet, row, row_before, rows, stretch, stretches, stretches_on}
use Rattle.flip_sweep.specs.Swept.{Sweep, all_rows, counts_with, rows_at, verdict_at, verdicts_at, verdicts_from}
use Rattle.flip_sweep.specs.declared.counts.Counts.{Counts}
use Rattle.flip_sweep.specs.declared.flips.Site.{Site}
use Rattle.flip_sweep.specs.declared.stretch.Stretch.{Stretch}
use Rattle.flip_sweep.specs.declared.verdict.Verdict.{Verdict}
use Rattle.flip_sweep.proofs.Rowing.{next_last, next_rows, small_all, small_less, small_next}

-- ---- a frame

next_verdicts : (w : Sweep) (at : Site) (off len : ℕ) (v : Verdict) → v ≡ verdict_at w at off → off < len → verdicts_from w at off (len - off) ≡ v ∷ verdicts_from w at (off + 1) (len - (off + 1))
next_verdicts w at off len v e l =
    let n : len - off ≡ suc (len - (off + 1)) = omega (arith, l) in
    ap (verdicts_from w at off) n ∙ ap (λ x. x ∷ verdicts_from w at (off + 1) (len - (off + 1))) (sym e)

no_verdicts : (w : Sweep) (at : Site) (off len : ℕ) → len ≤ off → verdicts_from w at off (len - off) ≡ []
no_verdicts w at off len l = let n : len - off ≡ 0 = omega (arith, l) in ap (verdicts_from w at off) n

many : (w : Sweep) (at : Site) (off n : ℕ) → length (verdicts_from w at off n) ≡ n
many w at off zero = refl
many w at off (suc n) = ap suc (many w at (off + 1) n)

-- the verdicts of the bytes behind a stretch
abbrev pub behind : Sweep → Site → Stretch → List Verdict
behind w at s = verdicts_from w at (s.last + 1) (w.script.block + 8 - (s.last + 1))

-- the lines of a stretch and of those behind it
abbrev pub open_rows : Sweep → Site → Stretch → List ℕ
open_rows w at s = rows at (stretches_on s (behind w at s))

pub rows_next : (w : Sweep) (at : Site) (s next : Stretch) (v : Verdict) → v ≡ verdict_at w at (s.last + 1) → s.last + 1 < w.script.block + 8 → next ≡ next_open s v → open_rows w at s ≡ row_before at s v ++ open_rows w at next
rows_next w at s next v e l n =
    let len = w.script.block + 8 in
    ap (λ vs. rows at (stretches_on s vs)) (next_verdicts w at (s.last + 1) len v e l)
    ∙ next_rows at s v (verdicts_from w at (s.last + 1 + 1) (len - (s.last + 1 + 1)))
    ∙ ap (λ k. row_before at s v ++ rows at (stretches_on (next_open s v) (verdicts_from w at (k + 1) (len - (k + 1))))) (sym (next_last s v))
    ∙ ap (λ x. row_before at s v ++ open_rows w at x) (sym n)

pub counted_next : (w : Sweep) (at : Site) (s next : Stretch) (v : Verdict) (c more total : Counts) → v ≡ verdict_at w at (s.last + 1) → s.last + 1 < w.script.block + 8 → next ≡ next_open s v → more ≡ counted c v → all_counted c (behind w at s) ≡ total → all_counted more (behind w at next) ≡ total
counted_next w at s next v c more total e l n m h =
    let len = w.script.block + 8 in
    ap (λ x. all_counted x (behind w at next)) m
    ∙ ap (λ x. all_counted (counted c v) (behind w at x)) n
    ∙ ap (λ k. all_counted (counted c v) (verdicts_from w at (k + 1) (len - (k + 1)))) (next_last s v)
    ∙ sym (ap (all_counted c) (next_verdicts w at (s.last + 1) len v e l)) ∙ h

pub small_on : (w : Sweep) (s next : Stretch) (v : Verdict) (c more : Counts) → s.last + 1 < w.script.block + 8 → next ≡ next_open s v → more ≡ counted c v → IsSmall c (w.script.block + 8 - (s.last + 1)) → IsSmall more (w.script.block + 8 - (next.last + 1))
small_on w s next v c more l n m h =
    let len = w.script.block + 8 in
    let k = ap (λ (x : Stretch). x.last) n ∙ next_last s v in
    subst (λ x. IsSmall x (len - (next.last + 1))) (sym m) (small_next c v (len - (next.last + 1)) (small_less c (len - (s.last + 1)) (len - (next.last + 1) + 1) (omega (arith, k, l)) h))

pub last_on : (w : Sweep) (s next : Stretch) (v : Verdict) → s.last + 1 < w.script.block + 8 → next ≡ next_open s v → next.last ≡ s.last + 1
last_on w s next v l n = ap (λ (x : Stretch). x.last) n ∙ next_last s v

-- the first byte
first_verdicts : (w : Sweep) (at : Site) (v : Verdict) → v ≡ verdict_at w at 0 → verdicts_at w at ≡ v ∷ behind w at (stretch 0 0 v)
first_verdicts w at v e = let z : w.script.block + 8 ≡ w.script.block + 8 - 0 = omega arith in ap (verdicts_from w at 0) z ∙ next_verdicts w at 0 (w.script.block + 8) v e (omega arith)

pub rows_first : (w : Sweep) (at : Site) (s : Stretch) → s ≡ stretch 0 0 (verdict_at w at 0) → rows_at w at ≡ open_rows w at s
rows_first w at s e = ap (λ vs. rows at (stretches vs)) (first_verdicts w at (verdict_at w at 0) refl) ∙ ap (open_rows w at) (sym e)

pub counted_first : (w : Sweep) (at : Site) (s : Stretch) (c more : Counts) → s ≡ stretch 0 0 (verdict_at w at 0) → more ≡ counted c s.verdict → all_counted more (behind w at s) ≡ all_counted c (verdicts_at w at)
counted_first w at s c more e m =
    let v = verdict_at w at 0 in
    ap (λ (x : Counts). all_counted x (behind w at s)) m
    ∙ ap (λ (x : Stretch). all_counted (counted c x.verdict) (behind w at x)) e
    ∙ sym (ap (all_counted c) (first_verdicts w at v refl))

pub small_first : (w : Sweep) (at : Site) (s : Stretch) (c more : Counts) → s ≡ stretch 0 0 (verdict_at w at 0) → more ≡ counted c s.verdict → IsSmall c (w.script.block + 8) → IsSmall more (w.script.block + 8 - (s.last + 1))
small_first w at s c more e m h =
    let n = w.script.block + 8 - (s.last + 1) in
    let zero_last : s.last ≡ 0 = ap (λ (x : Stretch). x.last) e in
    subst (λ (x : Counts). IsSmall x n) (sym m) (small_next c s.verdict n (small_less c (w.script.block + 8) (n + 1) (omega (arith, zero_last)) h))

-- no byte is left
pub rows_last : (w : Sweep) (at : Site) (s : Stretch) → w.script.block + 8 ≤ s.last + 1 → open_rows w at s ≡ row at s ++ []
rows_last w at s l = ap (λ vs. rows at (stretches_on s vs)) (no_verdicts w at (s.last + 1) (w.script.block + 8) l)

pub counted_last : (w : Sweep) (at : Site) (s : Stretch) (c total : Counts) → w.script.block + 8 ≤ s.last + 1 → all_counted c (behind w at s) ≡ total → c ≡ total
counted_last w at s c total l h = sym (ap (all_counted c) (no_verdicts w at (s.last + 1) (w.script.block + 8) l)) ∙ h

-- ---- crossings

pub small_site : (w : Sweep) (at : Site) (c more : Counts) (n : ℕ) → w.script.block ≤ 4096 → more ≡ all_counted c (verdicts_at w at) → IsSmall c (4104 * suc n) → IsSmall more (4104 * n)
small_site w at c more n b m h =
    let k = many w at 0 (w.script.block + 8) in
    subst (λ x. IsSmall x (4104 * n)) (sym m) (small_all c (verdicts_at w at) (4104 * n) (small_less c (4104 * suc n) (length (verdicts_at w at) + 4104 * n) (omega (arith, k, b)) h))

-- a crossing, and those behind it
pub rows_behind : (w : Sweep) (rest behind : List Site) (at : Site) → rest ≡ at ∷ behind → all_rows w rest ≡ rows_at w at ++ all_rows w behind
rows_behind w rest behind at e = ap (all_rows w) e

pub counts_next : (w : Sweep) (rest behind : List Site) (at : Site) (c more : Counts) → rest ≡ at ∷ behind → more ≡ all_counted c (verdicts_at w at) → counts_with w more behind ≡ counts_with w c rest
counts_next w rest behind at c more e m = ap (λ (x : Counts). counts_with w x behind) m ∙ sym (ap (counts_with w c) e)

pub small_here : (w : Sweep) (rest behind : List Site) (at : Site) (c : Counts) → w.script.block ≤ 4096 → rest ≡ at ∷ behind → IsSmall c (4104 * length rest) → IsSmall c (w.script.block + 8)
small_here w rest behind at c b e h = let n : length rest ≡ suc (length behind) = ap length e in small_less c (4104 * length rest) (w.script.block + 8) (omega (arith, b, n)) h

pub small_begin : (n : ℕ) (c : Counts) → c ≡ none_yet → n ≤ 49152 → IsSmall c (4104 * n)
small_begin n c e l = subst (λ (x : Counts). IsSmall x (4104 * n)) (sym e) (record { runs = omega (arith, l); found = omega arith; scrub = omega arith; same = omega arith; unseen = omega arith })

-- no crossing is left
pub no_rows : (w : Sweep) (rest : List Site) → length rest ≡ 0 → all_rows w rest ≡ []
no_rows w [] l = refl
no_rows w (at ∷ rest) l = absurd (omega (arith, l))

pub no_counts : (w : Sweep) (rest : List Site) (c : Counts) → length rest ≡ 0 → c ≡ counts_with w c rest
no_counts w [] c l = refl
no_counts w (at ∷ rest) c l = absurd (omega (arith, l))
