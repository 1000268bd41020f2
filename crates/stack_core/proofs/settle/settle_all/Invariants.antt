use Rattle.std.proofs.Common.{◌≡◌, ◌+◌, length, drop, take}
use Rattle.merge_queue.specs.Groups.{size}
use Rattle.stack_walk_laws.specs.Settled.{AllSettled}
use Rattle.stack_walk_laws.specs.Settling.{AreFates}
use Rattle.stack_core.proofs.settle.settle_all.Given as goal

abbrev pub invariant-loop-bio : goal.invariant-loop-bio
invariant-loop-bio l = record {
  pages : length l.pool ≡ length l.initial.pool;
  kept : AreFates l.ios l.kept.starts.items l.kept.held.items;
  starts : l.kept.starts.items ≡ l.initial.kept.starts.items;
  at : l.at ≡ size (take l.bio-index l.bios);
  rest : l.at + size (drop l.bio-index l.bios) ≡ length l.fates;
  settled : AllSettled l.how.mode l.how.ty l.ios l.initial.kept.starts.items l.bios l.fates l.bio-index (record { pages = l.initial.pool; held = l.initial.kept.held.items }) (record { pages = l.pool; held = l.kept.held.items });
}
