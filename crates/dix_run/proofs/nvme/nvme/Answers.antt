use Rattle.dix_run.specs.Commands.{nvme_work}
use Rattle.dix_run.specs.declared.refusal.Refusal.TheVariants as refusal
use Rattle.call_verdict.proofs.Verdicts.{done, refused}
use Rattle.dix_run.specs.Verdict.{dix}
use Rattle.dix_run.proofs.nvme.nvme.Goals as goal

pub returns-in-Ok-clause-ended : goal.returns-in-Ok-clause-ended
returns-in-Ok-clause-ended g c =
    done dix nvme_work (c.in-Ok.done.bad, c.in-Ok.done.text.items) _ _ _ _ _ c.finish.result (rw c.image_of.ensures at c.in-Ok.ensures) (rw (c.status_for.ensures, c.deref.ensures.value) at c.finish.ensures.written)

pub returns-in-Err-clause-ended : goal.returns-in-Err-clause-ended
returns-in-Err-clause-ended g c =
    refused dix nvme_work (refusal.Stopped c.in-Err.stop) _ _ _ _ _ c.refuse.result (rw c.image_of.ensures at c.in-Err.ensures) c.refuse.ensures.written
