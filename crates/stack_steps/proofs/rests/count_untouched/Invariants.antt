use Rattle.std.proofs.Common.{◌≡◌, ◌+◌, drop}
use Rattle.stack_steps.specs.Parts.{untouched_front}
use Rattle.stack_steps.proofs.rests.count_untouched.Given as goal

abbrev pub invariant-loop-i : goal.invariant-loop-i
invariant-loop-i l = record {
  count : l.n + untouched_front (drop l.i l.fates) ≡ untouched_front (drop l.from l.fates);
  same : l.n + l.from ≡ l.i;
}
