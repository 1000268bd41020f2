use Rattle.dix_run.specs.Commands.{mirror_work}
use Rattle.dix_run.specs.declared.refusal.Refusal.TheVariants as refusal
use Rattle.call_verdict.proofs.Verdicts.{done, refused}
use Rattle.dix_run.specs.Verdict.{dix}
use Rattle.dix_run.proofs.mirroring.mirror_image.Goals as goal

pub returns-in-Ok-clause-ended : goal.returns-in-Ok-clause-ended
returns-in-Ok-clause-ended g c = done dix mirror_work c.in-Ok.run' _ _ _ _ _ c.report_mirrored.result (rw c.image_of.ensures at c.in-Ok.ensures.verdict) c.report_mirrored.ensures.written

pub returns-in-Err-clause-ended : goal.returns-in-Err-clause-ended
returns-in-Err-clause-ended g c = refused dix mirror_work (refusal.Stopped c.in-Err.stop) _ _ _ _ _ c.refuse.result (rw c.image_of.ensures at c.in-Err.ensures.verdict) c.refuse.ensures.written
