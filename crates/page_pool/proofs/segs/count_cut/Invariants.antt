use Rattle.std.proofs.Common.{◌≡◌, ◌≤◌, ◌+◌, drop, length}
use Rattle.page_pool.specs.Cuts.{cut}
use Rattle.page_pool.proofs.segs.count_cut.Given as goal

abbrev pub invariant-loop-s : goal.invariant-loop-s
invariant-loop-s l = record {
  so_far : l.count + length (cut (drop l.s-index l.segs) l.at l.left) ≡ length (cut l.segs l.initial.at l.initial.left);
  room : l.count + l.left ≤ l.initial.left;
}
