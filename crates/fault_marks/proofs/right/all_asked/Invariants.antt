use Rattle.std.proofs.Common.{◌≡◌, ◌+◌, ◌*◌, ◌^◌, ◌≤◌, drop}
use Rattle.fault_marks.specs.Texts.{all_asked}
use Rattle.fault_marks.proofs.right.all_asked.Given as goal

abbrev pub invariant-loop-op : goal.invariant-loop-op
invariant-loop-op l = record {
  asked : l.blocks + all_asked (drop l.op-index l.ops) ≡ all_asked l.ops;
  few : l.blocks ≤ l.op-index * 2 ^ 32;
}
