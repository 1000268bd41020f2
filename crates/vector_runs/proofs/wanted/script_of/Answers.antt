use Rattle.std.proofs.lemmas.Result.{err_from_is_err_and}
use Rattle.vector_runs.proofs.Wanting.{script_bad}
use Rattle.vector_runs.proofs.wanted.script_of.Goals as goal

pub returns-in_err-script-clause-held : goal.returns-in_err-script-clause-held
returns-in_err-script-clause-held c =
    let p = err_from_is_err_and c.from_residual.result c.from_residual.ensures.1 in
    rw (p.1, p.2) (script_bad c.args.text.now c.in_err-script.field-0.0 c.requires c.in_err-script.ensures)
