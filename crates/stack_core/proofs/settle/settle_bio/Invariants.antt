use Rattle.std.proofs.Common.{◌≡◌, ◌-◌, get_or, length}
use Rattle.stack_walk_laws.specs.Settled.{BioSettled}
use Rattle.stack_core.proofs.settle.settle_bio.Given as goal

abbrev pub invariant-loop-i : goal.invariant-loop-i
invariant-loop-i l = record {
  pages : length l.pool ≡ length l.initial.pool;
  starts : l.kept.starts.items ≡ l.initial.kept.starts.items;
  held : length l.kept.held.items ≡ length l.initial.kept.held.items;
  settled : BioSettled l.how.mode l.how.ty l.io (get_or l.initial.kept.starts.items (l.bio.op - 1) 0) l.bio l.fates l.at l.i (record { pages = l.initial.pool; held = l.initial.kept.held.items }) (record { pages = l.pool; held = l.kept.held.items });
}
