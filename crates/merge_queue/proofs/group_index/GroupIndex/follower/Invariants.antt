use Rattle.std.proofs.Common.{◌≡◌, ◌-◌, ◌<◌, length, get_or}
use Rattle.std.specs.List.{filter}
use Rattle.merge_queue.specs.Groups.{may_join, numbers, followers}
use Rattle.merge_queue.proofs.group_index.GroupIndex.follower.Given as goal

abbrev pub invariant-loop-j : goal.invariant-loop-j
invariant-loop-j l = record {
  same : get_or (filter (may_join l.lim l.self.groups l.i) (numbers l.j (l.to - l.j))) l.left 0 ≡ get_or (followers l.lim l.self.groups l.i) l.number 0;
  within : l.left < length (filter (may_join l.lim l.self.groups l.i) (numbers l.j (l.to - l.j)));
}
