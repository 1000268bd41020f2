-- A footprint as the cells that an act reads and writes: virtual blocks, and bytes of all pages one after another.
use Rattle.std.specs.Prelude.{ℕ, zero, suc, ◌+◌, ◌*◌, Bool, true, false, ◌||◌, eqb, if◌then◌else◌, List, [], ◌∷◌, map, Option, Some, None}
use Rattle.page_pool.specs.declared.segs.Seg.{Seg}
use Rattle.page_pool.specs.Places.{places_in}
use Rattle.page_pool.specs.Cells.{cell, share_a_cell}
use Rattle.page_pool.specs.Walking.{InPages}
use Rattle.range_gate.specs.declared.footprint.Reach.{Reach}
use Rattle.range_gate.specs.declared.footprint.Touch.{Touch}
use Rattle.range_gate.specs.Prints.{is_same}

-- the cells that are read, and those that are written
pub record Cells : Type 0 where
  pub reads : List ℕ
  pub writes : List ℕ

-- they share a cell that one of them writes
abbrev pub cells_clash : Cells → Cells → Bool
cells_clash f g = share_a_cell f.reads g.writes || (share_a_cell g.reads f.writes || share_a_cell f.writes g.writes)

-- n cells one after another, from this one on
abbrev pub in_turn : ℕ → ℕ → List ℕ
in_turn v zero = []
in_turn v (suc n) = v ∷ in_turn (suc v) n

-- these are written, or read
abbrev pub on_side : Bool → List ℕ → Cells
on_side true cells = record { reads = []; writes = cells }
on_side false cells = record { reads = cells; writes = [] }

abbrev pub block_cells : Option Reach → Cells
block_cells None = record { reads = []; writes = [] }
block_cells (Some r) = on_side r.writes (in_turn r.first r.count)

-- the cells of the bytes of a list of segments, in the list's order
abbrev pub cells_of : List Seg → List ℕ
cells_of ss = map cell (places_in ss)

-- the segments of the touches that write, or of those that don't
abbrev pub segs_that : Bool → List Touch → List Seg
segs_that writes [] = []
segs_that writes (t ∷ ts) = if is_same t.writes writes then t.seg ∷ segs_that writes ts else segs_that writes ts

abbrev pub byte_cells : List Touch → Cells
byte_cells ts = record { reads = cells_of (segs_that false ts); writes = cells_of (segs_that true ts) }

-- no byte is behind the end of its page
abbrev pub AllInPages : List Touch → Type 0
AllInPages [] = Unit {0}
AllInPages (t ∷ ts) = InPages (places_in (t.seg ∷ [])) × AllInPages ts
