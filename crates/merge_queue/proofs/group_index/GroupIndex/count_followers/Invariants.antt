use Rattle.std.proofs.Common.{◌≡◌, ◌+◌, ◌-◌, ◌≤◌, length}
use Rattle.std.specs.List.{filter}
use Rattle.merge_queue.specs.Groups.{may_join, numbers}
use Rattle.merge_queue.proofs.group_index.GroupIndex.count_followers.Given as goal

abbrev pub invariant-loop-j : goal.invariant-loop-j
invariant-loop-j l = record {
  sum : l.count + length (filter (may_join l.lim l.self.groups l.i) (numbers l.j (l.to - l.j))) ≡ length (filter (may_join l.lim l.self.groups l.i) (numbers l.from (l.to - l.from)));
  few : l.count ≤ l.j;
}
