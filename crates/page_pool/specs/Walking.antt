use Rattle.std.specs.Prelude.{◌≡◌, ℕ, ◌-◌, ◌<◌, ◌≤◌, List, [], ◌∷◌, Option, MatchOption}
use Rattle.page_pool.specs.declared.segs.Seg.{Seg}
use Rattle.page_pool.specs.Places.{PageByte}
use Rattle.page_pool.specs.Cuts.{past, upto}
use Rattle.page_pool.specs.declared.TheConstants.{PAGE}

-- each place is in a page of the pool
pub record StandsIn (pages : ℕ) (p : PageByte) : Type 0 where
  pub in_pool : p.page < pages
  pub in_page : p.off < PAGE

abbrev pub AllStandIn : ℕ → List PageByte → Type 0
AllStandIn pages [] = Unit {0}
AllStandIn pages (p ∷ ps) = StandsIn pages p × AllStandIn pages ps

-- no place is behind the end of a page
abbrev pub InPages : List PageByte → Type 0
InPages [] = Unit {0}
InPages (p ∷ ps) = (p.off < PAGE) × InPages ps

-- a part of at most so many bytes was taken, the first of what was ahead, and what is behind it is ahead
pub record Took (most : ℕ) (old new : List Seg) (s : Seg) : Type 0 where
  pub some : 0 < s.len
  pub within : s.len ≤ most
  pub first : upto most old ≡ s ∷ upto (most - s.len) new
  pub ahead : new ≡ past s.len old

-- a step of a walk: it took a part, or nothing was asked for or ahead
abbrev pub Steps : ℕ → List Seg → Option Seg → List Seg → Type 0
Steps most old r new = MatchOption r ((upto most old ≡ []) × (new ≡ past 0 old)) (Took most old new)
