use Rattle.std.specs.Prelude.{◌≡◌, ℕ, ◌<◌, List, [], ◌∷◌}
use Rattle.page_pool.specs.declared.segs.Seg.{Seg}
use Rattle.page_pool.specs.Cuts.{past}

-- a byte is behind so many of a segment's
abbrev pub BeginsAt : List Seg → ℕ → Type 0
BeginsAt [] at = Unit {0}
BeginsAt (s ∷ ss) at = at < s.len

-- the same is ahead, and its first byte is in the first segment
pub record IsAhead (old : List Seg) (from : ℕ) (new : List Seg) (at : ℕ) : Type 0 where
  pub same : past at new ≡ past from old
  pub first : BeginsAt new at
