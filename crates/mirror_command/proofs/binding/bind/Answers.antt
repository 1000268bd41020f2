use Rattle.std.proofs.lemmas.Result.{err_from_is_err_and}
use Rattle.call_refusal.specs.Refusals.{of_untold}
use Rattle.call_refusal.proofs.Untelling.{refused}
use Rattle.mirror_command.proofs.Refusing.{unbound, untold}
use Rattle.mirror_command.proofs.binding.bind.Goals as goal

pub returns-in_err-found : goal.returns-in_err-found
returns-in_err-found g c =
    let p = err_from_is_err_and c.from_residual.result c.from_residual.ensures.1 in
    rw (p.1, p.2) (untold (of_untold c.in_err-found.field-0.0) c.args.script.now c.args.image.now _ _ (refused c.in_err-found.field-0.0 c.args.image.now _ _ c.in_err-found.ensures.told))

pub returns-in_err-bind_over : goal.returns-in_err-bind_over
returns-in_err-bind_over g c =
    let p = err_from_is_err_and c.from_residual-in_err-bind_over.result c.from_residual-in_err-bind_over.ensures.1 in
    rw (p.1, p.2) (unbound c.in_err-bind_over.field-0.0 c.args.script.now c.args.image.now c.in_ok-found.found.items _ _ (record { told = c.in_ok-found.ensures.told; all = c.in_ok-found.ensures.all }) (rw c.deref.ensures.0 at c.in_err-bind_over.ensures))
