use Rattle.std.proofs.Common.{arith, ap, ◌∙◌, [], replicate}
use Rattle.merge_queue.specs.Groups.{numbers}
use Rattle.stack_steps.proofs.Begin.{shows-start}
use Rattle.stack_steps.proofs.machine.Machine.new.Goals as goal

pub returns : goal.returns
returns g c =
    let e = c.count_blocks-room.ensures in
    record {
      shows = shows-start (g.P.Requests.plan c.args.plan.now) c.args.gate c.in_ok-new_ops.field-0.items c.of.result.items c.in_ok-new_queues.field-0.items c.in_ok-new.field-0
          c.requires.ops c.requires.conflicts c.in_ok-new_ops.ensures (c.of.ensures ∙ c.in_ok-new_live.ensures ∙ ap (numbers 0) c.ops.ensures) (c.in_ok-new_queues.ensures.groups ∙ ap (λ n. replicate n []) c.devices.ensures)
          (rw e at c.in_ok-new_queues.ensures.room) c.in_ok-new.ensures.0 (c.in_ok-new.ensures.1 ∙ e);
      room = omega (arith, e, c.in_ok-with_capacity.ensures.capacity);
    }
