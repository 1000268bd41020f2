use Rattle.std.proofs.Common.{◌≡◌, ◌+◌, ◌-◌, length, get_or}
use Rattle.std.specs.List.{filter}
use Rattle.merge_queue.specs.Groups.{numbers}
use Rattle.stack_steps.specs.Choices.{can_at, places}
use Rattle.stack_steps.proofs.choice.find_op.Given as goal

abbrev pub invariant-loop-at : goal.invariant-loop-at
invariant-loop-at g l = record {
  same : get_or (filter (can_at (g.P.Requests.plan l.plan) l.gate l.ops l.live l.step) (numbers l.at (l.n - l.at))) l.left 0 ≡ get_or (places (g.P.Requests.plan l.plan) l.gate l.ops l.live l.step) l.number 0;
  rest : length (filter (can_at (g.P.Requests.plan l.plan) l.gate l.ops l.live l.step) (numbers l.at (l.n - l.at))) + l.number ≡ length (places (g.P.Requests.plan l.plan) l.gate l.ops l.live l.step) + l.left;
}
