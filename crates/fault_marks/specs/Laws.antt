use Rattle.std.specs.Prelude.{ℕ, ◌≡◌, ◌+◌, ◌<◌, ◌≤◌, true, false, List, length, Some}
use Rattle.std.specs.List.{list_all}
use Rattle.page_pool.specs.Places.{total}
use Rattle.page_pool.specs.declared.TheConstants.{PAGE}
use Rattle.page_pool.specs.declared.segs.Seg.{Seg}
use Rattle.pi_tuple.specs.declared.TheConstants.{TUPLE}
use Rattle.script_text.specs.Rules.{is_bad_flip, is_zero}
use Rattle.script_text.specs.Segments.{is_inside}
use Rattle.fault_marks.specs.Closer.{flip_closer, other_total, seg_detail}
use Rattle.fault_marks.specs.declared.detail.Detail.{Detail}
use Rattle.fault_marks.specs.declared.detail.Detail.TheVariants.{PastFrame, NoChange, NoBytes, NoPage, PastPage, OtherTotal}

-- The cause that is said is the case, with its numbers.

-- So of an alteration of a frame: its bytes go past the end, or all are zero.
abbrev pub IsSoOfFlip : Detail → (size off : ℕ) → List ℕ → Type 0
IsSoOfFlip (PastFrame frame end) size off bytes = (frame ≡ size + TUPLE) × (end ≡ off + length bytes) × (frame < end)
IsSoOfFlip NoChange size off bytes = list_all is_zero bytes ≡ true
IsSoOfFlip _ size off bytes = ⊥

-- So of a segment: its page isn't there, it is empty, or it goes past the end of its page.
abbrev pub IsSoOfSegment : Detail → (pages : ℕ) → Seg → Type 0
IsSoOfSegment (NoPage n) pages s = (n ≡ pages) × (pages ≤ s.page)
IsSoOfSegment NoBytes pages s = s.len ≡ 0
IsSoOfSegment (PastPage end) pages s = (end ≡ s.off + s.len) × (PAGE < end)
IsSoOfSegment _ pages s = ⊥

-- So of the bytes of all segments: so many are wanted, and so many others are there.
abbrev pub IsSoOfTotal : Detail → (wanted : ℕ) → List Seg → Type 0
IsSoOfTotal (OtherTotal asked given) wanted segs = (asked ≡ wanted) × (given ≡ total segs) × (given ≡ asked → ⊥)
IsSoOfTotal _ wanted segs = ⊥

-- Of each alteration that isn't allowed, each segment that isn't inside the pages, and each list that is told of, the cause is so.
pub record CausesAreSo : Type 0 where
  pub flips : (size off word : ℕ) (bytes : List ℕ) → is_bad_flip size off bytes ≡ true → IsSoOfFlip (flip_closer size off bytes word).detail size off bytes
  pub segments : (pages : ℕ) (s : Seg) → is_inside pages s ≡ false → IsSoOfSegment (seg_detail pages s) pages s
  pub totals : (wanted : ℕ) (segs : List Seg) (d : Detail) → other_total wanted segs ≡ Some d → IsSoOfTotal d wanted segs
