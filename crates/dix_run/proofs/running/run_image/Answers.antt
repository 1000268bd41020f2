use Rattle.dix_run.specs.Commands.{run_work}
use Rattle.dix_run.specs.declared.refusal.Refusal.TheVariants as refusal
use Rattle.call_verdict.proofs.Verdicts.{done, refused}
use Rattle.dix_run.specs.Verdict.{dix}
use Rattle.dix_run.proofs.running.run_image.Goals as goal

pub returns-in-Ok-clause-ended : goal.returns-in-Ok-clause-ended
returns-in-Ok-clause-ended g c = done dix run_work c.in-Ok.run' _ _ _ _ _ c.report_run.result (rw c.image_of.ensures at c.in-Ok.ensures.verdict) c.report_run.ensures.written

pub returns-in-Err-clause-ended : goal.returns-in-Err-clause-ended
returns-in-Err-clause-ended g c = refused dix run_work (refusal.Stopped c.in-Err.stop) _ _ _ _ _ c.refuse.result (rw c.image_of.ensures at c.in-Err.ensures.verdict) c.refuse.ensures.written
