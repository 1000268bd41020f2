use Rattle.std.proofs.Common.{◌≡◌, ◌*◌, ◌≤◌, length}
use Rattle.merge_queue.specs.Groups.{pairs_below}
use Rattle.merge_queue.proofs.group_index.GroupIndex.joins.Given as goal

abbrev pub invariant-loop-i : goal.invariant-loop-i
invariant-loop-i l = record {
  sum : l.count ≡ length (pairs_below l.lim l.self.groups l.i);
  few : l.count ≤ l.i * 4294967295;
}
