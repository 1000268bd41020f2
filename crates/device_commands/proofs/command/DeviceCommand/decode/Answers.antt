use Rattle.std.proofs.Common.{rules, ap, Ok, take}
use Rattle.device_commands.proofs.Saying.{fits_said, form_said, none_differs, op_said, same_said}
use Rattle.device_commands.proofs.command.DeviceCommand.decode.Goals as goal

pub returns-in_err-op-clause-only : goal.returns-in_err-op-clause-only
returns-in_err-op-clause-only c d h = let e = op_said h.0 d c.args.bytes.now h.2 in absurd (search rules)

pub returns-then-not-fits-clause-only : goal.returns-then-not-fits-clause-only
returns-then-not-fits-clause-only c d h =
    let t = fits_said h.0 c.in_ok-op.op d c.told-command.result c.args.bytes.now (search rules) c.told-command.ensures h.1 h.2 in absurd (search rules)

pub returns-then-ne-clause-only : goal.returns-then-ne-clause-only
returns-then-ne-clause-only c d h =
    let t = form_said h.0 c.in_ok-op.op d c.told-command.result c.args.bytes.now (search rules) c.told-command.ensures h.1 h.2 in absurd (none_differs c.as_slice.result.now (take c.count.result c.args.bytes.now) c.ne.result (search rules) (search rules) (search rules))

pub returns-clause-only : goal.returns-clause-only
returns-clause-only c d h = ap Ok (same_said h.0 c.in_ok-op.op d c.told-command.result c.args.bytes.now (search rules) c.told-command.ensures h.1 h.2)
