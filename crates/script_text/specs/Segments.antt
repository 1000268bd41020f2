use Rattle.std.specs.Prelude.{ℕ, zero, suc, ◌+◌, ◌%◌, Bool, true, false, ◌&&◌, ◌||◌, eqb, nat_le, nat_lt, List, [], ◌∷◌, ◌++◌, length}
use Rattle.std.specs.List.{list_all, list_any}
use Rattle.page_pool.specs.declared.segs.Seg.{Seg}
use Rattle.page_pool.specs.Cuts.{cut}
use Rattle.page_pool.specs.Places.{shares}
use Rattle.page_pool.specs.declared.TheConstants.{PAGE}

-- The segment has bytes, and they lie in one of so many pages.
abbrev pub is_inside : ℕ → Seg → Bool
is_inside pages s = nat_lt s.page pages && (nat_lt 0 s.len && nat_le (s.off + s.len) PAGE)

abbrev pub are_inside : ℕ → List Seg → Bool
are_inside pages segs = list_all (is_inside pages) segs

abbrev pub is_whole : Seg → Bool
is_whole s = eqb (s.len % 8) 0

-- Each segment has whole tuples.
abbrev pub are_whole_tuples : List Seg → Bool
are_whole_tuples segs = list_all is_whole segs

-- Of n blocks of this size, the first of which begins at this byte, none lies in more than four of the segments.
abbrev pub few_from : (size at n : ℕ) → List Seg → Bool
few_from size at zero segs = true
few_from size at (suc n) segs = nat_le (length (cut segs at size)) 4 && few_from size (at + size) n segs

abbrev pub are_few_each : (size n : ℕ) → List Seg → Bool
are_few_each size n segs = few_from size 0 n segs

-- two of the segments share a byte
abbrev pub any_share : List Seg → Bool
any_share [] = false
any_share (s ∷ rest) = list_any (shares s) rest || any_share rest

abbrev pub do_overlap : (body tuples : List Seg) → Bool
do_overlap body tuples = any_share (body ++ tuples)
