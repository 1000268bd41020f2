use Rattle.std.proofs.Common.{◌-◌, ◌≤◌}
use Rattle.page_pool.proofs.Walks.{Gone}
use Rattle.page_pool.proofs.walk.Walk.advance.Given as goal

abbrev pub invariant-loop-s : goal.invariant-loop-s
invariant-loop-s l = record {
  most : l.left ≤ l.count;
  gone : Gone l.initial.self l.self (l.count - l.left);
}

abbrev pub decreases-loop-s : goal.decreases-loop-s
decreases-loop-s l = l.left
