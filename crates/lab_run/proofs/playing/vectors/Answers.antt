use Rattle.std.proofs.Common.{refl}
use Rattle.std.proofs.lemmas.Result.{err_from_is_err_and}
use Rattle.lab_run.proofs.Vectoring.{played, stopped}
use Rattle.lab_run.proofs.playing.vectors.Goals as goal

pub returns-in_err-played-clause-came : goal.returns-in_err-played-clause-came
returns-in_err-played-clause-came g c = λ first second.
    let p = err_from_is_err_and c.from_residual.result c.from_residual.ensures.1 in
    rw (p.1, p.2) (stopped _ _ _ _ _ _ _ first second c.image_of.result.now c.in_err-played.field-0.0 _ _ _ c.image_of.ensures refl c.in_err-played.ensures)

pub returns-clause-came : goal.returns-clause-came
returns-clause-came g c = λ first second. played _ _ _ _ _ _ _ first second c.image_of.result.now c.in_ok-played.played _ _ _ _ c.print.result c.image_of.ensures c.in_ok-played.ensures c.print.ensures.written
