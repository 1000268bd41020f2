-- What an op touches, and when two ops conflict.
use Rattle.std.specs.Prelude.{◌≡◌, ℕ, ◌+◌, ◌<◌, ◌≤◌, true, ◌⊎◌, Some}
use Rattle.std.specs.List.{Contains}
use Rattle.page_pool.specs.Places.{PageByte, IsAmong, places_of}
use Rattle.range_gate.specs.declared.footprint.Reach.{Reach}
use Rattle.range_gate.specs.declared.footprint.Touch.{Touch}
use Rattle.range_gate.specs.declared.footprint.Footprint.{Footprint}

-- it reads or writes the virtual block
abbrev pub Reaches : Footprint → ℕ → Type 0
Reaches f v = (r : Reach) × (f.blocks ≡ Some r) × (r.first ≤ v) × (v < r.first + r.count)

-- it writes the virtual block
abbrev pub WritesBlock : Footprint → ℕ → Type 0
WritesBlock f v = (r : Reach) × (f.blocks ≡ Some r) × (r.first ≤ v) × (v < r.first + r.count) × (r.writes ≡ true)

-- it reads or writes the byte of a page
abbrev pub Touches : Footprint → PageByte → Type 0
Touches f b = (t : Touch) × Contains f.bytes t × IsAmong (places_of t.seg) b

-- it writes the byte of a page
abbrev pub WritesByte : Footprint → PageByte → Type 0
WritesByte f b = (t : Touch) × Contains f.bytes t × (t.writes ≡ true) × IsAmong (places_of t.seg) b

-- they share a virtual block that one of them writes
abbrev pub ShareBlock : Footprint → Footprint → Type 0
ShareBlock f g = (v : ℕ) × Reaches f v × Reaches g v × (WritesBlock f v ⊎ WritesBlock g v)

-- they share a byte of a page that one of them writes
abbrev pub ShareByte : Footprint → Footprint → Type 0
ShareByte f g = (b : PageByte) × Touches f b × Touches g b × (WritesByte f b ⊎ WritesByte g b)

-- one of them is alone, or they share a block or a byte that one of them writes
abbrev pub Conflict : Footprint → Footprint → Type 0
Conflict f g = (f.alone ≡ true) ⊎ ((g.alone ≡ true) ⊎ (ShareBlock f g ⊎ ShareByte f g))
