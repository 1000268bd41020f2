use Rattle.std.proofs.Common.{◌≡◌, ◌+◌, ◌-◌, ◌≤◌, length}
use Rattle.std.specs.List.{filter}
use Rattle.merge_queue.specs.Groups.{may_join, numbers}
use Rattle.merge_queue.proofs.group_index.GroupIndex.count_leaders.Given as goal

abbrev pub invariant-loop-j : goal.invariant-loop-j
invariant-loop-j l = record {
  sum : l.count + length (filter (λ j. may_join l.lim l.self.groups j l.i) (numbers l.j (l.to - l.j))) ≡ length (filter (λ j. may_join l.lim l.self.groups j l.i) (numbers l.from (l.to - l.from)));
  few : l.count ≤ l.j;
}
