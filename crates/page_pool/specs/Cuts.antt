use Rattle.std.specs.Prelude.{ℕ, ◌+◌, ◌-◌, min, nat_lt, if◌then◌else◌, List, [], ◌∷◌}
use Rattle.page_pool.specs.declared.segs.Seg.{Seg}

-- the first bytes of a segment, at most so many
abbrev pub front : ℕ → Seg → Seg
front most s = record { page = s.page; off = s.off; len = min s.len most }

-- what is behind its first bytes
abbrev pub behind : ℕ → Seg → Seg
behind at s = record { page = s.page; off = s.off + at; len = s.len - at }

-- what is behind the first `at` bytes of a list, from a segment with bytes on
abbrev pub past : ℕ → List Seg → List Seg
past at [] = []
past at (s ∷ ss) = if nat_lt at s.len then behind at s ∷ ss else past (at - s.len) ss

-- the first bytes of a list, at most so many: the last segment is cut, and one without bytes is left out
abbrev pub upto : ℕ → List Seg → List Seg
upto most [] = []
upto most (s ∷ ss) = if nat_lt 0 (min s.len most) then front most s ∷ upto (most - s.len) ss else upto (most - s.len) ss

-- the segments of a range of a list, cut to it: `len` bytes from the list's byte `at` on
abbrev pub cut : List Seg → ℕ → ℕ → List Seg
cut segs at len = upto len (past at segs)
