use Rattle.std.proofs.Common.{◌≡◌, ◌<◌, length, get_or, drop}
use Rattle.stack_steps.specs.Choices.{sends_at, no_choice}
use Rattle.stack_steps.proofs.choice.pick_send.Given as goal

abbrev pub invariant-loop-d : goal.invariant-loop-d
invariant-loop-d l = record {
  same : get_or (sends_at l.d (drop l.d l.queues)) l.left no_choice ≡ get_or (sends_at 0 l.queues) l.number no_choice;
  within : l.left < length (sends_at l.d (drop l.d l.queues));
}
