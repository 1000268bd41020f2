use Rattle.std.proofs.Common.{◌≡◌, ◌-◌, ◌++◌}
use Rattle.flip_sweep.specs.Flips.{sites_on}
use Rattle.flip_sweep.proofs.flips.add_blocks.Given as goal

abbrev pub invariant-loop-k : goal.invariant-loop-k
invariant-loop-k l = l.sites.items ++ sites_on l.op l.k (l.count - l.k) ≡ l.initial.sites.items ++ sites_on l.op 0 l.count
