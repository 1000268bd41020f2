use Rattle.merge_queue.specs.Counts.{NoneJoins}
use Rattle.merge_queue.proofs.group_index.GroupIndex.first_joinable.Given as goal

abbrev pub invariant-loop-i : goal.invariant-loop-i
invariant-loop-i l = record {
  none : NoneJoins l.lim l.self.groups l.i;
}
