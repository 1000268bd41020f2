use Rattle.std.proofs.Common.{◌≡◌, ◌+◌, ◌-◌, length, get_or}
use Rattle.std.specs.List.{flat_map}
use Rattle.merge_queue.specs.Groups.{numbers, pairs}
use Rattle.merge_queue.proofs.Joins.{row}
use Rattle.merge_queue.proofs.group_index.GroupIndex.find_join.Given as goal

abbrev pub invariant-loop-i : goal.invariant-loop-i
invariant-loop-i l = record {
  same : get_or (flat_map (row l.lim l.self.groups) (numbers l.i (l.n - l.i))) l.left (0, 0) ≡ get_or (pairs l.lim l.self.groups) l.number (0, 0);
  rest : length (flat_map (row l.lim l.self.groups) (numbers l.i (l.n - l.i))) + l.number ≡ length (pairs l.lim l.self.groups) + l.left;
}
