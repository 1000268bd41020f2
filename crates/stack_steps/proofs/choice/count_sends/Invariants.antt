use Rattle.std.proofs.Common.{◌≡◌, ◌+◌, length, drop}
use Rattle.stack_steps.specs.Choices.{sends_at}
use Rattle.stack_steps.proofs.choice.count_sends.Given as goal

abbrev pub invariant-loop-d : goal.invariant-loop-d
invariant-loop-d l = l.count + length (sends_at l.d (drop l.d l.queues)) ≡ length (sends_at 0 l.queues)
