use Rattle.std.proofs.lemmas.Result.{err_from_is_err_and}
use Rattle.call_refusal.specs.Refusals.{of_script}
use Rattle.run_command.proofs.Refusing.{unread, untaken_text}
use Rattle.run_command.proofs.scripts.take_script.Goals as goal

pub returns-clause-reads : goal.returns-clause-reads
returns-clause-reads g c = record { text = c.in_ok-text.text.items; whole = c.in_ok-text.ensures.whole; reads = rw c.deref.ensures.value at c.in_ok-script.ensures; calm = c.in_ok-text.ensures.calm }

pub returns-in_err-script-clause-cause : goal.returns-in_err-script-clause-cause
returns-in_err-script-clause-cause g c =
    let p = err_from_is_err_and c.from_residual-in_err-script.result c.from_residual-in_err-script.ensures.1 in
    rw (p.1, p.2) (untaken_text (of_script c.in_err-script.field-0.0) c.in_ok-text.text.items _ _ _ _ c.in_ok-text.ensures.whole (unread c.in_err-script.field-0.0 _ (rw c.deref.ensures.value at c.in_err-script.ensures)))
