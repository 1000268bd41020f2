use Rattle.std.proofs.Common.{inl, inr, refl, ap, ◌∙◌}
use Rattle.call_verdict.specs.Verdicts.{done_status}
use Rattle.lab_run.proofs.playing.print.Goals as goal

pub returns-in-Ok-clause-written : goal.returns-in-Ok-clause-written
returns-in-Ok-clause-written g c = inl (c.status_for-status.ensures ∙ ap done_status c.has_sense.ensures, c.in-Ok.ensures.wrote.whole, c.in-Ok.ensures.wrote.calm)

pub returns-in-Err-clause-written : goal.returns-in-Err-clause-written
returns-in-Err-clause-written g c = inr (refl, c.in-Err.ensures.wrote.cause, c.in-Err.ensures.wrote.part)
