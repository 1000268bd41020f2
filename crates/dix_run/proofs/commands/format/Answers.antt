use Rattle.std.proofs.Common.{length, refl, ap, ◌∙◌, arith}
use Rattle.rig_api.specs.Headers.{is_layout}
use Rattle.dix_run.specs.Commands.{format_work}
use Rattle.dix_run.specs.declared.refusal.Refusal.TheVariants as refusal
use Rattle.call_verdict.proofs.Verdicts.{refused}
use Rattle.dix_run.specs.Verdict.{dix}
use Rattle.dix_run.proofs.Endings.{formatted}
use Rattle.dix_run.proofs.Layouts.{few_units}
use Rattle.dix_run.proofs.commands.format.Goals as goal

pub format_image-requires : goal.format_image-requires
format_image-requires g c = ap is_layout c.as_slice-units.ensures ∙ c.requires

pub overflow_cast-units : goal.overflow_cast-units
overflow_cast-units g c =
    let few = few_units c.args.units.now c.requires in
    let same = ap length c.as_slice-units.ensures in
    omega (arith, few, same)

pub returns-in-Ok-clause-ended : goal.returns-in-Ok-clause-ended
returns-in-Ok-clause-ended g c = λ left reads.
    formatted _ c.args.units.now (length c.as_slice-units.result.now) _ _ _ _ c.finish.result (ap length c.as_slice-units.ensures)
    (rw (c.image_of.ensures, c.as_slice-units.ensures) at c.in-Ok.ensures) (refl, refl) (rw (c.as_slice.ensures.value, c.count_line.ensures) at c.finish.ensures.written)

pub returns-in-Err-clause-ended : goal.returns-in-Err-clause-ended
returns-in-Err-clause-ended g c = λ left reads.
    refused dix (format_work c.args.units.now) (refusal.Stopped c.in-Err.stop) _ _ _ _ _ c.refuse.result (rw (c.image_of.ensures, c.as_slice-units.ensures) at c.in-Err.ensures, (refl, refl)) c.refuse.ensures.written
