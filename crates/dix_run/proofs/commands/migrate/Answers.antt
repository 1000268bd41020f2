use Rattle.std.proofs.Common.{refl}
use Rattle.dix_run.specs.Commands.{migrate_work}
use Rattle.dix_run.specs.declared.refusal.Refusal.TheVariants as refusal
use Rattle.call_verdict.proofs.Verdicts.{done, refused}
use Rattle.dix_run.specs.Verdict.{dix}
use Rattle.dix_run.proofs.commands.migrate.Goals as goal

pub returns-in-Ok-clause-ended : goal.returns-in-Ok-clause-ended
returns-in-Ok-clause-ended g c = λ left reads.
    done dix migrate_work c.in-Ok.count _ _ _ _ _ c.finish.result ((rw c.image_of.ensures at c.in-Ok.ensures), (refl, refl)) (rw (c.as_slice.ensures.value, c.count_line.ensures) at c.finish.ensures.written)

pub returns-in-Err-clause-ended : goal.returns-in-Err-clause-ended
returns-in-Err-clause-ended g c = λ left reads.
    refused dix migrate_work (refusal.Stopped c.in-Err.stop) _ _ _ _ _ c.refuse.result (rw c.image_of.ensures at c.in-Err.ensures, (refl, refl)) c.refuse.ensures.written
