use Rattle.std.proofs.Common.{◌≡◌, ◌+◌, length, get_or, drop}
use Rattle.stack_steps.specs.Choices.{joins_at, no_choice}
use Rattle.stack_steps.proofs.choice.find_join.Given as goal

abbrev pub invariant-loop-d : goal.invariant-loop-d
invariant-loop-d l = record {
  same : get_or (joins_at l.lim l.d (drop l.d l.queues)) l.left no_choice ≡ get_or (joins_at l.lim 0 l.queues) l.number no_choice;
  rest : length (joins_at l.lim l.d (drop l.d l.queues)) + l.number ≡ length (joins_at l.lim 0 l.queues) + l.left;
}
