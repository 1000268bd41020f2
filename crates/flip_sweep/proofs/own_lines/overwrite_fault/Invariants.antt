use Rattle.std.proofs.Common.{◌≡◌, length}
use Rattle.flip_sweep.specs.Flips.{overwrite_fault}
use Rattle.flip_sweep.proofs.own_lines.overwrite_fault.Given as goal

abbrev pub invariant-loop-op : goal.invariant-loop-op
invariant-loop-op l = overwrite_fault l.rest l.numbers ≡ overwrite_fault l.ops l.lines

abbrev pub decreases-loop-op : goal.decreases-loop-op
decreases-loop-op l = length l.rest
