use Rattle.std.specs.Prelude.{ℕ, List}
use Rattle.std.specs.Borrow.{Lends, MutBor, Fml, Array, u8}
use Rattle.page_pool.specs.declared.segs.Seg.{Seg}
use Rattle.page_pool.specs.Pages.{with_part}
use Rattle.page_pool.specs.contracts.pool.PagePool.{the_row}

-- the pool ends with the last bytes behind r at the segment, and all its other bytes as before
abbrev pub LendsPart : MutBor (List (List ℕ)) → Seg → MutBor (List ℕ) → Fml
LendsPart pool s r = Lends the_row (Array u8 0) pool r (with_part pool.now s)
