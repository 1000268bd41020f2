use Rattle.std.proofs.Common.{◌≡◌, ◌≤◌, ◌+◌, drop}
use Rattle.page_pool.specs.Places.{total}
use Rattle.stack_steps.specs.Reach.{reach}
use Rattle.stack_steps.proofs.within.bytes_within.Given as goal

abbrev pub invariant-loop-s : goal.invariant-loop-s
invariant-loop-s l = record {
  same : l.bytes + reach (drop l.s-index l.segs) l.at l.left ≡ reach l.segs l.initial.at l.initial.left;
  room : l.bytes + total (drop l.s-index l.segs) ≤ total l.segs;
}
