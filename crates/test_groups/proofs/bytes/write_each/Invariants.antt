use Rattle.std.proofs.Common.{◌≡◌, ◌≤◌, drop, length}
use Rattle.std.specs.Prelude.{map}
use Rattle.page_pool.specs.Cells.{cell, flat, scatter}
use Rattle.page_pool.specs.Places.{places_in, total}
use Rattle.test_groups.proofs.bytes.write_each.Given as goal

abbrev pub invariant-loop-s : goal.invariant-loop-s
invariant-loop-s l = record {
  pages : length l.pool ≡ length l.fn.pool;
  enough : total (drop l.s-index l.segs) ≤ length l.rest;
  wrote : scatter (map cell (places_in (drop l.s-index l.segs))) l.rest (flat l.pool) ≡ scatter (map cell (places_in l.segs)) l.bytes (flat l.fn.pool);
}
