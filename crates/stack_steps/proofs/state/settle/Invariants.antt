use Rattle.std.proofs.Common.{◌≡◌, ◌+◌, length, drop}
use Rattle.merge_queue.specs.Groups.{size}
use Rattle.stack_steps.specs.State.{settle_bios}
use Rattle.stack_steps.proofs.state.settle.Given as goal

abbrev pub invariant-loop-b : goal.invariant-loop-b
invariant-loop-b l = record {
  same : settle_bios (drop l.b-index l.bios) (drop l.at l.fates) l.ops.items ≡ settle_bios l.bios l.fates l.initial.ops.items;
  rest : l.at + size (drop l.b-index l.bios) ≡ length l.fates;
  ops : length l.ops.items ≡ length l.initial.ops.items;
}
