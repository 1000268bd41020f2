-- How many blocks lie in so many segments.
use Rattle.std.specs.Prelude.{ℕ, ◌+◌, ◌-◌, ◌≤◌, ◌↔◌, nat_le, eqb, if◌then◌else◌, List, [], ◌∷◌}
use Rattle.page_pool.specs.declared.segs.Seg.{Seg}

-- how many bytes of a list, from its byte `at` on, lie in at most so many segments
abbrev pub reach : List Seg → ℕ → ℕ → ℕ
reach [] at most = 0
reach (s ∷ ss) at most = if nat_le s.len at then reach ss (at - s.len) most else if eqb most 0 then 0 else (s.len - at) + reach ss 0 (most - 1)

-- of the numbers up to `left`, those up to r have at most so many segments, and greater ones have more
abbrev pub Reaches : (ℕ → ℕ) → (most left r : ℕ) → Type 0
Reaches segs most left r = (n : ℕ) → n ≤ left → (n ≤ r ↔ segs n ≤ most)
