-- The cause that is said of a fault is the case.
use Rattle.std.proofs.Common.{ℕ, ◌≡◌, ◌+◌, Bool, true, false, eqb, cond, List, length, Some, None, refl, subst, arith}
use Rattle.std.specs.Prelude.{nat_le, nat_lt, ◌&&◌, ◌||◌}
use Rattle.std.specs.List.{list_all}
use Rattle.std.proofs.lemmas.Bool.{eqb-true, eqb-false, lt-ltb, ltb-true}
use Rattle.page_pool.specs.Places.{total}
use Rattle.page_pool.specs.declared.segs.Seg.{Seg}
use Rattle.script_text.specs.Rules.{is_zero}
use Rattle.script_text.specs.Segments.{is_inside}
use Rattle.fault_marks.specs.Closer.{at_word}
use Rattle.fault_marks.specs.Laws.{CausesAreSo, IsSoOfFlip, IsSoOfSegment, IsSoOfTotal}
use Rattle.fault_marks.specs.declared.detail.Detail.{Detail}
use Rattle.fault_marks.specs.declared.detail.Detail.TheVariants.{PastFrame, NoChange, NoBytes, NoPage, PastPage, OtherTotal}

flip_by : (past : Bool) (size off word : ℕ) (bytes : List ℕ) → nat_lt (size + 8) (off + length bytes) ≡ past → (past || list_all is_zero bytes) ≡ true →
    IsSoOfFlip (cond past (at_word (PastFrame (size + 8) (off + length bytes)) word) (at_word NoChange (word + 1))).detail size off bytes
flip_by true size off word bytes k h = (refl, refl, ltb-true (size + 8) (off + length bytes) k)
flip_by false size off word bytes k h = h

not_last : (a b c : Bool) → a ≡ true → b ≡ true → (a && (b && c)) ≡ false → c ≡ false
not_last true true c e f h = h
not_last true false c e f h = absurd (cc)
not_last false b c e f h = absurd (cc)

seg_by_len : (empty : Bool) (pages : ℕ) (s : Seg) → eqb s.len 0 ≡ empty → nat_le pages s.page ≡ false → is_inside pages s ≡ false → IsSoOfSegment (cond empty NoBytes (PastPage (s.off + s.len))) pages s
seg_by_len true pages s e k h = eqb-true s.len 0 e
seg_by_len false pages s e k h =
    let here : nat_lt s.page pages ≡ true = lt-ltb s.page pages (grind (arith, k)) in
    let some : nat_lt 0 s.len ≡ true = lt-ltb 0 s.len (grind (arith, e)) in
    let past : nat_le (s.off + s.len) 4096 ≡ false = not_last (nat_lt s.page pages) (nat_lt 0 s.len) (nat_le (s.off + s.len) 4096) here some h in
    (refl, grind (arith, past))

seg_by_page : (none : Bool) (pages : ℕ) (s : Seg) → nat_le pages s.page ≡ none → is_inside pages s ≡ false → IsSoOfSegment (cond none (NoPage pages) (cond (eqb s.len 0) NoBytes (PastPage (s.off + s.len)))) pages s
seg_by_page true pages s k h = (refl, grind (arith, k))
seg_by_page false pages s k h = seg_by_len (eqb s.len 0) pages s refl k h

total_by : (long same : Bool) (wanted : ℕ) (segs : List Seg) (d : Detail) → eqb (total segs) wanted ≡ same → cond long None (cond same None (Some (OtherTotal wanted (total segs)))) ≡ Some d → IsSoOfTotal d wanted segs
total_by true same wanted segs d k e = absurd (cc)
total_by false true wanted segs d k e = absurd (cc)
total_by false false wanted segs d k e =
    let said : OtherTotal wanted (total segs) ≡ d = cc in
    subst (λ (x : Detail). IsSoOfTotal x wanted segs) said (refl, refl, eqb-false (total segs) wanted k)

pub so : CausesAreSo
so = record {
  flips = λ size off word bytes h. flip_by (nat_lt (size + 8) (off + length bytes)) size off word bytes refl h;
  segments = λ pages s h. seg_by_page (nat_le pages s.page) pages s refl h;
  totals = λ wanted segs d e. total_by (nat_lt 512 (length segs)) (eqb (total segs) wanted) wanted segs d refl e;
}
