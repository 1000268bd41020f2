use Rattle.std.proofs.lemmas.Result.{err_from_is_err_and}
use Rattle.call_refusal.specs.Refusals.{of_script, of_untold}
use Rattle.call_refusal.proofs.Untelling.{refused}
use Rattle.run_command.proofs.Refusing.{tableless, unbound, unfit, untold}
use Rattle.run_command.proofs.verdict.bind.Goals as goal

pub table_of-requires-clause-ends : goal.table_of-requires-clause-ends
table_of-requires-clause-ends g c = rw c.deref.ensures.0 c.in_ok-devices.ensures.told.devices_are.ends

pub returns : goal.returns
returns g c = record {
  asked = record { told = c.in_ok-devices.ensures.told; all = c.in_ok-devices.ensures.all };
  made = rw c.deref.ensures.0 at c.in_ok-table.ensures.table;
  bound = rw c.deref-2.ensures.0 at c.in_ok-bind_script.ensures;
}

pub returns-in_err-table : goal.returns-in_err-table
returns-in_err-table g c =
    let p = err_from_is_err_and c.from_residual-in_err-table.result c.from_residual-in_err-table.ensures.1 in
    rw (p.1, p.2) (unbound c.in_err-table.field-0.0 c.args.script.now c.args.image.now c.in_ok-devices.devices.items _ _ (record { told = c.in_ok-devices.ensures.told; all = c.in_ok-devices.ensures.all })
    (tableless c.in_err-table.field-0.0 c.args.script.now c.in_ok-devices.devices.items (rw c.deref.ensures.0 at c.in_err-table.ensures.cause)))

pub returns-in_err-bind_script : goal.returns-in_err-bind_script
returns-in_err-bind_script g c =
    let p = err_from_is_err_and c.from_residual-in_err-bind_script.result c.from_residual-in_err-bind_script.ensures.1 in
    rw (p.1, p.2) (unbound (of_script c.in_err-bind_script.field-0.0) c.args.script.now c.args.image.now c.in_ok-devices.devices.items _ _ (record { told = c.in_ok-devices.ensures.told; all = c.in_ok-devices.ensures.all })
    (unfit c.in_err-bind_script.field-0.0 c.args.script.now c.in_ok-devices.devices.items c.in_ok-table.table (rw c.deref.ensures.0 at c.in_ok-table.ensures.table) (rw c.deref-2.ensures.0 at c.in_err-bind_script.ensures)))

pub returns-in_err-devices : goal.returns-in_err-devices
returns-in_err-devices g c =
    let p = err_from_is_err_and c.from_residual.result c.from_residual.ensures.1 in
    rw (p.1, p.2) (untold (of_untold c.in_err-devices.field-0.0) c.args.script.now c.args.image.now _ _ (refused c.in_err-devices.field-0.0 c.args.image.now _ _ c.in_err-devices.ensures.told))
