use Rattle.std.proofs.lemmas.Result.{err_from_is_err_and}
use Rattle.vector_runs.proofs.Wanting.{list_bad}
use Rattle.vector_runs.proofs.wanted.list_of.Goals as goal

pub returns-in_err-read_list-clause-held : goal.returns-in_err-read_list-clause-held
returns-in_err-read_list-clause-held c =
    let p = err_from_is_err_and c.from_residual.result c.from_residual.ensures.1 in
    rw (p.1, p.2) (list_bad c.args.text.now c.in_err-read_list.field-0.0 c.requires c.in_err-read_list.ensures.fault)
