use Rattle.std.specs.Prelude.{◌≡◌, ℕ, ◌+◌, ◌<◌, ◌≤◌, List, [], ◌∷◌, ◌++◌, length, map, take, drop, slice_index_or, slice_set}
use Rattle.std.specs.declared.alloc.Global.{Global}
use Rattle.std.specs.declared.vec.Vec.{Vec}
use Rattle.page_pool.specs.declared.segs.Seg.{Seg}
use Rattle.page_pool.specs.Places.{PageByte, IsAmong, range_of}
use Rattle.page_pool.specs.declared.TheConstants.{PAGE}

-- the pages of a pool, each as its bytes
abbrev pub contents : List (Vec ℕ Global) → List (List ℕ)
contents vs = map (λ (v : Vec ℕ Global). v.items) vs

-- the bytes of a page
abbrev pub page_of : List (List ℕ) → ℕ → List ℕ
page_of pool page = slice_index_or pool page []

-- the byte at a place
abbrev pub byte_at : List (List ℕ) → PageByte → ℕ
byte_at pool p = slice_index_or (page_of pool p.page) p.off 0

-- the bytes at these places, in their order
abbrev pub bytes_at : List (List ℕ) → List PageByte → List ℕ
bytes_at pool ps = map (byte_at pool) ps

-- the bytes of a range of a list: `len` bytes from the list's byte `at` on
abbrev pub bytes_in : List (List ℕ) → List Seg → ℕ → ℕ → List ℕ
bytes_in pool segs at len = bytes_at pool (range_of segs at len)

-- each page has 4,096 bytes
pub record AreWhole (pool : List (List ℕ)) : Type 0 where
  pub size : (page : ℕ) → page < length pool → length (page_of pool page) ≡ PAGE

-- the segment lies in one of the pool's pages
pub record LiesIn (pool : List (List ℕ)) (s : Seg) : Type 0 where
  pub in_pool : s.page < length pool
  pub in_page : s.off + s.len ≤ PAGE

-- so do all segments of a list
abbrev pub AllLieIn : List (List ℕ) → List Seg → Type 0
AllLieIn pool [] = Unit {0}
AllLieIn pool (s ∷ ss) = LiesIn pool s × AllLieIn pool ss

-- the page's bytes at a segment
abbrev pub part : List (List ℕ) → Seg → List ℕ
part pool s = take s.len (drop s.off (page_of pool s.page))

-- the bytes with these from an offset on, as many as before
abbrev pub with_bytes : List ℕ → ℕ → List ℕ → List ℕ
with_bytes page off bytes = take (length page) (take off page ++ (bytes ++ drop (length bytes) (drop off page)))

-- the pool with these bytes at a segment
abbrev pub with_part : List (List ℕ) → Seg → List ℕ → List (List ℕ)
with_part pool s bytes = slice_set pool s.page (with_bytes (page_of pool s.page) s.off bytes)

-- all bytes of the pool are as before but for those at these places
pub record OthersStay (old new : List (List ℕ)) (ps : List PageByte) : Type 0 where
  pub pages : length new ≡ length old
  pub sizes : (page : ℕ) → length (page_of new page) ≡ length (page_of old page)
  pub others : (p : PageByte) → ¬ IsAmong ps p → byte_at new p ≡ byte_at old p

-- these bytes stand at these places, and all other bytes are as before
pub record Wrote (old new : List (List ℕ)) (ps : List PageByte) (bytes : List ℕ) : Type 0 where
  pub written : bytes_at new ps ≡ bytes
  pub others : OthersStay old new ps

-- so many pages of zeros
pub record IsBlank (many : ℕ) (pool : List (List ℕ)) : Type 0 where
  pub pages : length pool ≡ many
  pub whole : AreWhole pool
  pub zeros : (p : PageByte) → byte_at pool p ≡ 0
