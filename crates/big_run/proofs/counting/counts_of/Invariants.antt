use Rattle.std.proofs.Common.{◌≡◌, ◌+◌, ◌≤◌, length}
use Rattle.script_laws.specs.Keeping.{blocks_of}
use Rattle.big_run.specs.Counting.{blocks_in, counts_with, no_ops, ops_in}
use Rattle.big_run.proofs.counting.counts_of.Given as goal

abbrev pub invariant-loop-op : goal.invariant-loop-op
invariant-loop-op l = record {
  counted : counts_with l.counts l.rest ≡ counts_with no_ops l.ops;
  ops : ops_in l.counts + length l.rest ≤ 1024;
  blocks : blocks_in l.counts + blocks_of l.rest ≤ 16384;
}

abbrev pub decreases-loop-op : goal.decreases-loop-op
decreases-loop-op l = length l.rest
