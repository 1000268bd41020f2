use Rattle.std.proofs.Common.{◌≡◌, ◌≤◌, length, take}
use Rattle.std.specs.Vec.{vec_capacity}
use Rattle.stack_core.specs.Replies.{bad_from}
use Rattle.stack_core.proofs.kept.reply_of.Given as goal

abbrev pub invariant-loop-k : goal.invariant-loop-k
invariant-loop-k l = record {
  bad : l.bad.items ≡ bad_from 0 (take l.k l.fates);
  few : length l.bad.items ≤ l.k;
  room : length l.fates ≤ vec_capacity l.bad;
}
