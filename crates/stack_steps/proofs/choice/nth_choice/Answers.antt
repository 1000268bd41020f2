use Rattle.std.proofs.Common.{◌≡◌, ◌+◌, ◌-◌, length, ap, sym, ◌∙◌, arith}
use Rattle.std.specs.Prelude.{Err, Ok}
use Rattle.stack_steps.specs.declared.choice.Choice.TheVariants.{Admit, Cut}
use Rattle.stack_steps.specs.declared.choice.OpStep.TheVariants.{Ending, Admission, Cutting}
use Rattle.stack_steps.specs.Choices.{ChoiceFound, PlaceFound, joins_at, places}
use Rattle.stack_steps.proofs.Nth.{length-choices, to-second, to-third, to-fourth, to-fifth, to-sixth, in-second, in-third, in-fourth, in-fifth}
use Rattle.stack_steps.proofs.choice.nth_choice.Goals as goal

pub returns-then-second-completions : goal.returns-then-second-completions
returns-then-second-completions g c =
    let a : PlaceFound (places (g.P.Requests.plan c.args.plan.now) c.args.gate.now c.args.ops.now c.args.live.now Ending) c.args.number (Err c.in-Err.behind) = rw (c.in-Err.is) at c.find_op.ensures in
    sym (to-second (g.P.Requests.plan c.args.plan.now) c.args.gate.now c.args.ops.now c.args.live.now c.args.queues.now c.args.flight.now.commands c.args.number c.in-Err.behind a
    ∙ in-second (g.P.Requests.plan c.args.plan.now) c.args.gate.now c.args.ops.now c.args.live.now c.args.queues.now c.args.flight.now.commands c.in-Err.behind (omega (arith, c.len-completions.ensures, c.if-second-completions.true)))

pub returns-in-Ok-find_op : goal.returns-in-Ok-find_op
returns-in-Ok-find_op g c =
    let a : PlaceFound (places (g.P.Requests.plan c.args.plan.now) c.args.gate.now c.args.ops.now c.args.live.now Ending) c.args.number (Err c.in-Err.behind) = rw (c.in-Err.is) at c.find_op.ensures in
    let b : c.in-Err.behind ≡ length c.args.flight.now.commands + (c.in-Err.behind - c.len-completions.result) = omega (arith, c.len-completions.ensures, c.if-second-completions.false) in
    let f : PlaceFound (places (g.P.Requests.plan c.args.plan.now) c.args.gate.now c.args.ops.now c.args.live.now Admission) (c.in-Err.behind - c.len-completions.result) (Ok c.in-Ok-find_op.q) = rw (c.in-Ok-find_op.is) at c.find_op-2.ensures in
    sym (to-third (g.P.Requests.plan c.args.plan.now) c.args.gate.now c.args.ops.now c.args.live.now c.args.queues.now c.args.flight.now.commands c.args.number c.in-Err.behind (c.in-Err.behind - c.len-completions.result) a b
    ∙ in-third (g.P.Requests.plan c.args.plan.now) c.args.gate.now c.args.ops.now c.args.live.now c.args.queues.now (c.in-Err.behind - c.len-completions.result) f.0
    ∙ ap Admit (sym f.1))

pub returns-in-Ok-find_op-2 : goal.returns-in-Ok-find_op-2
returns-in-Ok-find_op-2 g c =
    let a : PlaceFound (places (g.P.Requests.plan c.args.plan.now) c.args.gate.now c.args.ops.now c.args.live.now Ending) c.args.number (Err c.in-Err.behind) = rw (c.in-Err.is) at c.find_op.ensures in
    let b : c.in-Err.behind ≡ length c.args.flight.now.commands + (c.in-Err.behind - c.len-completions.result) = omega (arith, c.len-completions.ensures, c.if-second-completions.false) in
    let d : PlaceFound (places (g.P.Requests.plan c.args.plan.now) c.args.gate.now c.args.ops.now c.args.live.now Admission) (c.in-Err.behind - c.len-completions.result) (Err c.in-Err-find_op.behind) = rw (c.in-Err-find_op.is) at c.find_op-2.ensures in
    let f : PlaceFound (places (g.P.Requests.plan c.args.plan.now) c.args.gate.now c.args.ops.now c.args.live.now Cutting) c.in-Err-find_op.behind (Ok c.in-Ok-find_op-2.q) = rw (c.in-Ok-find_op-2.is) at c.find_op-3.ensures in
    sym (to-fourth (g.P.Requests.plan c.args.plan.now) c.args.gate.now c.args.ops.now c.args.live.now c.args.queues.now c.args.flight.now.commands c.args.number c.in-Err.behind (c.in-Err.behind - c.len-completions.result) c.in-Err-find_op.behind a b d
    ∙ in-fourth (g.P.Requests.plan c.args.plan.now) c.args.gate.now c.args.ops.now c.args.live.now c.args.queues.now c.in-Err-find_op.behind f.0
    ∙ ap Cut (sym f.1))

pub pick_send-requires-clause-within : goal.pick_send-requires-clause-within
pick_send-requires-clause-within g c =
    let n = length-choices (g.P.Requests.plan c.args.plan.now) c.args.gate.now c.args.ops.now c.args.live.now c.args.queues.now c.args.flight.now.commands in
    let a : PlaceFound (places (g.P.Requests.plan c.args.plan.now) c.args.gate.now c.args.ops.now c.args.live.now Ending) c.args.number (Err c.in-Err.behind) = rw (c.in-Err.is) at c.find_op.ensures in
    let b : c.in-Err.behind ≡ length c.args.flight.now.commands + (c.in-Err.behind - c.len-completions.result) = omega (arith, c.len-completions.ensures, c.if-second-completions.false) in
    let d : PlaceFound (places (g.P.Requests.plan c.args.plan.now) c.args.gate.now c.args.ops.now c.args.live.now Admission) (c.in-Err.behind - c.len-completions.result) (Err c.in-Err-find_op.behind) = rw (c.in-Err-find_op.is) at c.find_op-2.ensures in
    let e : PlaceFound (places (g.P.Requests.plan c.args.plan.now) c.args.gate.now c.args.ops.now c.args.live.now Cutting) c.in-Err-find_op.behind (Err c.in-Err-find_op-2.behind) = rw (c.in-Err-find_op-2.is) at c.find_op-3.ensures in
    let f : ChoiceFound (joins_at (g.P.Requests.plan c.args.plan.now).limits 0 c.args.queues.now) c.in-Err-find_op-2.behind (Err c.in-Err-find_join.sixth) = rw (c.in-Err-find_join.is, c.limits-lim.ensures) at c.find_join.ensures in
    omega (arith, n, a, b, d, e, f, c.requires.within)

pub returns-in-Ok-find_join : goal.returns-in-Ok-find_join
returns-in-Ok-find_join g c =
    let a : PlaceFound (places (g.P.Requests.plan c.args.plan.now) c.args.gate.now c.args.ops.now c.args.live.now Ending) c.args.number (Err c.in-Err.behind) = rw (c.in-Err.is) at c.find_op.ensures in
    let b : c.in-Err.behind ≡ length c.args.flight.now.commands + (c.in-Err.behind - c.len-completions.result) = omega (arith, c.len-completions.ensures, c.if-second-completions.false) in
    let d : PlaceFound (places (g.P.Requests.plan c.args.plan.now) c.args.gate.now c.args.ops.now c.args.live.now Admission) (c.in-Err.behind - c.len-completions.result) (Err c.in-Err-find_op.behind) = rw (c.in-Err-find_op.is) at c.find_op-2.ensures in
    let e : PlaceFound (places (g.P.Requests.plan c.args.plan.now) c.args.gate.now c.args.ops.now c.args.live.now Cutting) c.in-Err-find_op.behind (Err c.in-Err-find_op-2.behind) = rw (c.in-Err-find_op-2.is) at c.find_op-3.ensures in
    let f : ChoiceFound (joins_at (g.P.Requests.plan c.args.plan.now).limits 0 c.args.queues.now) c.in-Err-find_op-2.behind (Ok c.in-Ok-find_join.choice) = rw (c.in-Ok-find_join.is, c.limits-lim.ensures) at c.find_join.ensures in
    sym (to-fifth (g.P.Requests.plan c.args.plan.now) c.args.gate.now c.args.ops.now c.args.live.now c.args.queues.now c.args.flight.now.commands c.args.number c.in-Err.behind (c.in-Err.behind - c.len-completions.result) c.in-Err-find_op.behind c.in-Err-find_op-2.behind a b d e
    ∙ in-fifth (g.P.Requests.plan c.args.plan.now) c.args.queues.now c.in-Err-find_op-2.behind f.0
    ∙ sym f.1)

pub returns-in-Err-find_join : goal.returns-in-Err-find_join
returns-in-Err-find_join g c =
    let a : PlaceFound (places (g.P.Requests.plan c.args.plan.now) c.args.gate.now c.args.ops.now c.args.live.now Ending) c.args.number (Err c.in-Err.behind) = rw (c.in-Err.is) at c.find_op.ensures in
    let b : c.in-Err.behind ≡ length c.args.flight.now.commands + (c.in-Err.behind - c.len-completions.result) = omega (arith, c.len-completions.ensures, c.if-second-completions.false) in
    let d : PlaceFound (places (g.P.Requests.plan c.args.plan.now) c.args.gate.now c.args.ops.now c.args.live.now Admission) (c.in-Err.behind - c.len-completions.result) (Err c.in-Err-find_op.behind) = rw (c.in-Err-find_op.is) at c.find_op-2.ensures in
    let e : PlaceFound (places (g.P.Requests.plan c.args.plan.now) c.args.gate.now c.args.ops.now c.args.live.now Cutting) c.in-Err-find_op.behind (Err c.in-Err-find_op-2.behind) = rw (c.in-Err-find_op-2.is) at c.find_op-3.ensures in
    let f : ChoiceFound (joins_at (g.P.Requests.plan c.args.plan.now).limits 0 c.args.queues.now) c.in-Err-find_op-2.behind (Err c.in-Err-find_join.sixth) = rw (c.in-Err-find_join.is, c.limits-lim.ensures) at c.find_join.ensures in
    sym (to-fifth (g.P.Requests.plan c.args.plan.now) c.args.gate.now c.args.ops.now c.args.live.now c.args.queues.now c.args.flight.now.commands c.args.number c.in-Err.behind (c.in-Err.behind - c.len-completions.result) c.in-Err-find_op.behind c.in-Err-find_op-2.behind a b d e
    ∙ to-sixth (g.P.Requests.plan c.args.plan.now) c.args.queues.now c.in-Err-find_op-2.behind c.in-Err-find_join.sixth f
    ∙ sym c.pick_send.ensures)
