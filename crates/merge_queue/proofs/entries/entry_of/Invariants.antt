use Rattle.std.proofs.Common.{◌≡◌, ◌+◌, ◌*◌, ◌≤◌, drop}
use Rattle.merge_queue.specs.Groups.{size, segs_of, pi_segs_of}
use Rattle.merge_queue.proofs.entries.entry_of.Given as goal

abbrev pub invariant-loop-b : goal.invariant-loop-b
invariant-loop-b l = record {
  blocks : l.blocks + size (drop l.b-index l.run) ≡ size l.run;
  segs : l.segs + segs_of (drop l.b-index l.run) ≡ segs_of l.run;
  pi_segs : l.pi_segs + pi_segs_of (drop l.b-index l.run) ≡ pi_segs_of l.run;
  few_blocks : l.blocks ≤ l.b-index * 4294967295;
  few_segs : l.segs ≤ l.b-index * 4294967295;
  few_pi_segs : l.pi_segs ≤ l.b-index * 4294967295;
}
