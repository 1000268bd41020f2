use Rattle.std.proofs.Common.{◌≡◌, ◌≤◌, ◌+◌, ◌++◌, length, drop}
use Rattle.std.specs.Vec.{vec_capacity}
use Rattle.run_words.specs.Lies.{asked_from}
use Rattle.run_words.specs.Ledgers.{blocks_asked_for}
use Rattle.run_words.proofs.asked.all_asked.Given as goal

abbrev pub invariant-loop-op : goal.invariant-loop-op
invariant-loop-op l = record {
  room : length l.ops ≤ vec_capacity l.asked;
  count : length l.asked.items ≡ l.op-index;
  all : asked_from 0 l.ops ≡ l.asked.items ++ asked_from l.blocks (drop l.op-index l.ops);
  blocks : blocks_asked_for l.ops ≡ l.blocks + blocks_asked_for (drop l.op-index l.ops);
}
