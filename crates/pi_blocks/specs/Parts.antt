use Rattle.std.specs.Prelude.{◌≡◌, ℕ, ◌≤◌, List, [], ◌∷◌, ◌++◌, map, take, drop, length}
use Rattle.pi_blocks.specs.declared.parts.Part.{Part}
use Rattle.pi_blocks.specs.declared.parts.PartMut.{PartMut}
use Rattle.pi_blocks.specs.declared.parts.Place.{Place}

-- the bytes of parts that are read like this, one part after another
abbrev pub all_of : {P : Type 0} → (P → List ℕ) → List P → List ℕ
all_of read [] = []
all_of read (p ∷ ps) = read p ++ all_of read ps

-- the bytes of the first part
abbrev pub first_of : {P : Type 0} → (P → List ℕ) → List P → List ℕ
first_of read [] = []
first_of read (p ∷ ps) = read p

-- the bytes from a place on
abbrev pub left_in : {P : Type 0} → (P → List ℕ) → List P → Place → List ℕ
left_in read parts place = drop place.at (all_of read (drop place.part parts))

-- the bytes before a place
abbrev pub before_in : {P : Type 0} → (P → List ℕ) → List P → Place → List ℕ
before_in read parts place = all_of read (take place.part parts) ++ take place.at (first_of read (drop place.part parts))

-- no more bytes of its part lie before a place than it has
abbrev pub IsInside : {P : Type 0} → (P → List ℕ) → List P → Place → Type 0
IsInside read parts place = place.at ≤ length (first_of read (drop place.part parts))

-- the same of parts that are read alone, and of parts that may be written
abbrev pub bytes_of : Part → List ℕ
bytes_of p = p.bytes.now

abbrev pub all_parts : List Part → List ℕ
all_parts parts = all_of bytes_of parts

abbrev pub left_of : List Part → Place → List ℕ
left_of parts place = left_in bytes_of parts place

abbrev pub IsIn : List Part → Place → Type 0
IsIn parts place = IsInside bytes_of parts place

abbrev pub bytes_of_mut : PartMut → List ℕ
bytes_of_mut p = p.bytes.now

abbrev pub all_parts_mut : List PartMut → List ℕ
all_parts_mut parts = all_of bytes_of_mut parts

-- parts that were written lie where they lay, and have as many bytes as before
pub record StaySame (old new : List PartMut) : Type 0 where
  pub there : map (λ (p : PartMut). p.bytes.ghost_name) new ≡ map (λ (p : PartMut). p.bytes.ghost_name) old
  pub long : map (λ (p : PartMut). length p.bytes.now) new ≡ map (λ (p : PartMut). length p.bytes.now) old
