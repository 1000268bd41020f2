use Rattle.std.proofs.Common.{◌≡◌, take}
use Rattle.flip_sweep.proofs.copying.copy_ops.Given as goal

abbrev pub invariant-loop-op : goal.invariant-loop-op
invariant-loop-op l = l.held.items ≡ take l.op-index l.ops
