use Rattle.std.proofs.Common.{◌≡◌, ◌-◌, take}
use Rattle.merge_queue.specs.Chains.{after, filled, path}
use Rattle.merge_queue.proofs.chains.fill.Given as goal

abbrev pub invariant-loop-b : goal.invariant-loop-b
invariant-loop-b l = record {
  place : l.place ≡ after l.next l.first l.b-index;
  last : l.last ≡ after l.next l.first (l.b-index - 1);
  bios : l.bios ≡ filled (path l.next l.first l.b-index) (take l.b-index l.run) l.initial.bios;
}
