use Rattle.std.specs.Prelude.{◌≡◌, ℕ, ◌≤◌, List, length, map}
use Rattle.page_pool.specs.declared.parts.Parts.{Parts}
use Rattle.page_pool.specs.declared.segs.Seg.{Seg}
use Rattle.page_pool.specs.Cuts.{cut, upto}
use Rattle.page_pool.specs.Pages.{AllLieIn, part}
use Rattle.page_pool.specs.Places.{places_in, range_of}

-- the parts of a range: the page's bytes at each of its cut segments
abbrev pub parts_in : List (List ℕ) → List Seg → ℕ → ℕ → List (List ℕ)
parts_in pool segs at len = map (part pool) (cut segs at len)

-- These segments are a range of a list, cut to it: they name the range's bytes, and are no more than these and than the list's segments.
pub record IsCut (segs : List Seg) (at len : ℕ) (cuts : List Seg) : Type 0 where
  pub names : places_in cuts ≡ range_of segs at len
  pub few : length cuts ≤ len
  pub fewer : length cuts ≤ length segs

-- the parts that are still to come
abbrev pub parts_left : Parts → List (List ℕ)
parts_left s = map (part s.pool.now) (upto s.left s.walk)

-- they lie in the pool
abbrev pub AreReady : Parts → Type 0
AreReady s = AllLieIn s.pool.now (upto s.left s.walk)
