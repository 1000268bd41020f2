use Rattle.std.proofs.Common.{refl}
use Rattle.dix_run.specs.Commands.{scrub_work}
use Rattle.dix_run.specs.Verdict.{dix, no_memory}
use Rattle.dix_run.specs.declared.refusal.Refusal.TheVariants as refusal
use Rattle.call_verdict.proofs.Verdicts.{done, refused}
use Rattle.dix_run.proofs.Endings.{scrub_spared}
use Rattle.dix_run.proofs.commands.scrub.Goals as goal

pub returns-in-Err-clause-ended : goal.returns-in-Err-clause-ended
returns-in-Err-clause-ended g c = λ left reads.
    refused dix scrub_work (refusal.Stopped c.in-Err.stop) _ _ _ _ _ c.refuse.result (rw c.image_of.ensures at c.in-Err.ensures, (refl, refl)) c.refuse.ensures.written

pub returns-in-Ok-scrub_text-clause-ended : goal.returns-in-Ok-scrub_text-clause-ended
returns-in-Ok-scrub_text-clause-ended g c = λ left reads.
    done dix scrub_work (c.in-Ok.devices.items, c.scrub_image.new.found.items) _ _ _ _ _ c.finish.result ((rw c.image_of.ensures at c.in-Ok.ensures), (refl, refl))
    (rw (c.status_for.ensures, c.has_some.ensures, c.deref-in-Ok-scrub_text-2.ensures.value, c.deref-in-Ok-scrub_text.ensures.value, c.in-Ok-scrub_text.ensures, c.deref.ensures.0, c.deref-2.ensures.value) at c.finish.ensures.written)

pub returns-clause-ended : goal.returns-clause-ended
returns-clause-ended g c = λ left reads.
    refused dix scrub_work no_memory _ _ _ _ _ c.refuse-in-Err-scrub_text.result
    (scrub_spared _ _ _ _ _ (rw c.image_of.ensures at c.in-Ok.ensures), (refl, refl)) c.refuse-in-Err-scrub_text.ensures.written
