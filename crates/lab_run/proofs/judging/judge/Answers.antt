use Rattle.std.proofs.lemmas.Result.{err_from_is_err_and}
use Rattle.lab_run.proofs.Judges.{judged, refuses}
use Rattle.lab_run.proofs.judging.judge.Goals as goal

pub returns-in_err-said-clause-came : goal.returns-in_err-said-clause-came
returns-in_err-said-clause-came g c = λ h rig second.
    let p = err_from_is_err_and c.from_residual.result c.from_residual.ensures.1 in
    rw (p.1, p.2) (refuses _ h _ _ _ _ rig second c.in_err-said.field-0.0 _ _ c.in_err-said.ensures)

pub returns-clause-came : goal.returns-clause-came
returns-clause-came g c = λ h rig second. judged _ h _ _ _ _ rig second c.in_ok-said.said c.deref.result.now _ _ _ _ c.finish.result c.in_ok-said.ensures c.deref.ensures.value c.finish.ensures.written
