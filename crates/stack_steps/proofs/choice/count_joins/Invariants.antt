use Rattle.std.proofs.Common.{◌≡◌, ◌+◌, length, drop}
use Rattle.stack_steps.specs.Choices.{joins_at}
use Rattle.stack_steps.proofs.choice.count_joins.Given as goal

abbrev pub invariant-loop-d : goal.invariant-loop-d
invariant-loop-d l = l.count + length (joins_at l.lim l.d (drop l.d l.queues)) ≡ length (joins_at l.lim 0 l.queues)
