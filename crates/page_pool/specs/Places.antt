use Rattle.std.specs.Prelude.{◌≡◌, ℕ, Bool, zero, suc, ◌+◌, ◌-◌, max, nat_lt, eqb, ◌&&◌, ◌⊎◌, List, [], ◌∷◌, ◌++◌, take, drop}
use Rattle.page_pool.specs.declared.segs.Seg.{Seg}

-- where a byte of a pool stands: the page and the offset there
pub record PageByte : Type 0 where
  pub page : ℕ
  pub off : ℕ

-- so many places of one page, one after another from this offset on
unfoldable pub run : ℕ → ℕ → ℕ → List PageByte
run page off zero = []
run page off (suc n) = record { page = page; off = off } ∷ run page (off + 1) n

-- the places of a segment's bytes
abbrev pub places_of : Seg → List PageByte
places_of s = run s.page s.off s.len

-- the places of the bytes of a list of segments, in the list's order
abbrev pub places_in : List Seg → List PageByte
places_in [] = []
places_in (s ∷ ss) = places_of s ++ places_in ss

-- the places of a range of a list: `len` bytes from the list's byte `at` on
abbrev pub range_of : List Seg → ℕ → ℕ → List PageByte
range_of segs at len = take len (drop at (places_in segs))

-- the sum of the lengths
abbrev pub total : List Seg → ℕ
total [] = 0
total (s ∷ ss) = s.len + total ss

-- the place is one of these
abbrev pub IsAmong : List PageByte → PageByte → Type 0
IsAmong [] p = ⊥
IsAmong (q ∷ qs) p = (p ≡ q) ⊎ IsAmong qs p

-- no place is there twice
abbrev pub NoneTwice : List PageByte → Type 0
NoneTwice [] = Unit {0}
NoneTwice (p ∷ ps) = (¬ IsAmong ps p) × NoneTwice ps

-- no place is in both lists
abbrev pub Apart : List PageByte → List PageByte → Type 0
Apart ps qs = (p : PageByte) → IsAmong ps p → ¬ IsAmong qs p

-- some byte is in both segments
abbrev pub Overlap : Seg → Seg → Type 0
Overlap s t = (p : PageByte) × IsAmong (places_of s) p × IsAmong (places_of t) p

-- the test for it: in one page, the later of the two first bytes is in both
abbrev pub shares : Seg → Seg → Bool
shares s t = eqb s.page t.page && (nat_lt (max s.off t.off - s.off) s.len && nat_lt (max s.off t.off - t.off) t.len)
