use Rattle.std.proofs.Common.{◌≡◌, length, ap, ◌∙◌, arith}
use Rattle.merge_queue.specs.declared.limits.Limits.{Limits}
use Rattle.stack_steps.specs.Choices.{joins_at}
use Rattle.stack_steps.proofs.Nth.{length-choices}
use Rattle.stack_steps.proofs.choice.count_choices.Goals as goal

pub returns : goal.returns
returns g c =
    let n = length-choices (g.P.Requests.plan c.args.plan.now) c.args.gate.now c.args.ops.now c.args.live.now c.args.queues.now c.args.flight.now.commands in
    let j : c.count_joins-joins.result ≡ length (joins_at (g.P.Requests.plan c.args.plan.now).limits 0 c.args.queues.now) =
    c.count_joins-joins.ensures ∙ ap (λ (z : Limits). length (joins_at z 0 c.args.queues.now)) c.limits-lim.ensures in
    omega (arith, n, j, c.count_ops-ends.ensures.count, c.len-completions.ensures, c.count_ops-admissions.ensures.count, c.count_ops-cuts.ensures.count, c.count_sends-sends.ensures)
