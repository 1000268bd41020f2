use Rattle.dix_run.specs.Commands.{trace_work}
use Rattle.dix_run.specs.declared.refusal.Refusal.TheVariants as refusal
use Rattle.call_verdict.proofs.Verdicts.{refused}
use Rattle.dix_run.specs.Verdict.{dix}
use Rattle.dix_run.proofs.Endings.{traced}
use Rattle.dix_run.proofs.running.trace_image.Goals as goal

pub returns-in-Ok-clause-ended : goal.returns-in-Ok-clause-ended
returns-in-Ok-clause-ended g c = traced _ c.in-Ok.run' _ _ _ _ c.trace_run.result (rw c.image_of.ensures at c.in-Ok.ensures.verdict) c.trace_run.ensures.written

pub returns-in-Err-clause-ended : goal.returns-in-Err-clause-ended
returns-in-Err-clause-ended g c = refused dix trace_work (refusal.Stopped c.in-Err.stop) _ _ _ _ _ c.refuse.result (rw c.image_of.ensures at c.in-Err.ensures.verdict) c.refuse.ensures.written
