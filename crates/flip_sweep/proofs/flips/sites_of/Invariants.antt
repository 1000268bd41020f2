use Rattle.std.proofs.Common.{◌≡◌, ◌+◌, ◌≤◌, ◌++◌, length}
use Rattle.flip_sweep.specs.Flips.{sites_from}
use Rattle.flip_sweep.proofs.flips.sites_of.Given as goal

abbrev pub invariant-loop-op : goal.invariant-loop-op
invariant-loop-op l = record {
  sites : l.sites.items ++ sites_from l.number l.rest ≡ sites_from 1 l.ops;
  few : l.number + length l.rest ≤ 1025;
}

abbrev pub decreases-loop-op : goal.decreases-loop-op
decreases-loop-op l = length l.rest
