use Rattle.std.proofs.lemmas.Result.{err_from_is_err_and}
use Rattle.mirror_command.proofs.Refusing.{tableless, unfit}
use Rattle.mirror_command.proofs.binding.bind_over.Goals as goal

pub returns-in_err-table : goal.returns-in_err-table
returns-in_err-table c =
    let p = err_from_is_err_and c.from_residual.result c.from_residual.ensures.1 in
    rw (p.1, p.2) (tableless c.in_err-table.field-0.0 c.args.script.now c.args.devices.now c.in_err-table.ensures.cause)

pub returns-in_err-bind_mirror : goal.returns-in_err-bind_mirror
returns-in_err-bind_mirror c =
    let p = err_from_is_err_and c.from_residual-in_err-bind_mirror.result c.from_residual-in_err-bind_mirror.ensures.1 in
    rw (p.1, p.2) (unfit c.in_err-bind_mirror.field-0.0 c.args.script.now c.args.devices.now c.in_ok-table.table c.in_ok-table.ensures.table c.in_err-bind_mirror.ensures)
