use Rattle.std.proofs.Common.{None, Some, Ok, Err, refl, sym, ap, ◌∙◌}
use Rattle.lab_run.specs.declared.command.Command.{Command}
use Rattle.lab_run.specs.declared.command.Command.TheVariants.{Help, Version, ShowUnits, ShowBlocks, Diff, Export, Import, Vectors, Judge, Explain, Sweep, Check, Failures}
use Rattle.lab_run.specs.declared.refusal.Refusal.TheVariants as refusal
use Rattle.lab_run.proofs.Carrying.{came_by}
use Rattle.lab_run.proofs.program.answer.Goals as goal

pub returns-in_default-clause-came : goal.returns-in_default-clause-came
returns-in_default-clause-came g c = came_by None (Err refusal.Words) _ _ _ _ _ (sym c.command_of.ensures ∙ c.in_default.is) (record { comes = (refl, refl, refl); kept = record { source = (refl, refl); rig = refl; first = refl; second = refl } })

pub returns-in-Help-clause-came : goal.returns-in-Help-clause-came
returns-in-Help-clause-came g c =
    came_by (Some Help) (Ok c.finish.result) _ _ _ _ _ (sym c.command_of.ensures ∙ c.in-Some.is ∙ ap (λ (x : Command). Some x) c.in-Help.is) (record { comes = (tt, tt, c.finish.ensures.written); kept = record { source = (refl, refl); rig = refl; first = refl; second = refl } })

pub returns-in-Version-clause-came : goal.returns-in-Version-clause-came
returns-in-Version-clause-came g c =
    came_by (Some Version) (Ok c.finish-in-Version.result) _ _ _ _ _ (sym c.command_of.ensures ∙ c.in-Some.is ∙ ap (λ (x : Command). Some x) c.in-Version.is)
    (record { comes = (tt, tt, c.finish-in-Version.ensures.written); kept = record { source = (refl, refl); rig = refl; first = refl; second = refl } })

pub returns-in-ShowUnits-clause-came : goal.returns-in-ShowUnits-clause-came
returns-in-ShowUnits-clause-came g c = came_by (Some ShowUnits) c.show_units.result _ _ _ _ _ (sym c.command_of.ensures ∙ c.in-Some.is ∙ ap (λ (x : Command). Some x) c.in-ShowUnits.is) (c.show_units.ensures.came _ _ _ _)

pub returns-in-ShowBlocks-clause-came : goal.returns-in-ShowBlocks-clause-came
returns-in-ShowBlocks-clause-came g c = came_by (Some (ShowBlocks c.in-ShowBlocks.only_bad c.in-ShowBlocks.place)) c.show_blocks.result _ _ _ _ _ (sym c.command_of.ensures ∙ c.in-Some.is ∙ ap (λ (x : Command). Some x) c.in-ShowBlocks.is) (c.show_blocks.ensures.came _ _ _ _)

pub returns-in-Diff-clause-came : goal.returns-in-Diff-clause-came
returns-in-Diff-clause-came g c = came_by (Some (Diff c.in-Diff.one c.in-Diff.other)) c.diff.result _ _ _ _ _ (sym c.command_of.ensures ∙ c.in-Some.is ∙ ap (λ (x : Command). Some x) c.in-Diff.is) (c.diff.ensures.came _ _ _)

pub returns-in-Export-clause-came : goal.returns-in-Export-clause-came
returns-in-Export-clause-came g c = came_by (Some (Export c.in-Export.place c.in-Export.layout)) c.export.result _ _ _ _ _ (sym c.command_of.ensures ∙ c.in-Some.is ∙ ap (λ (x : Command). Some x) c.in-Export.is) (c.export.ensures.came _ _ _ _)

pub returns-in-Import-clause-came : goal.returns-in-Import-clause-came
returns-in-Import-clause-came g c = came_by (Some (Import c.in-Import.place c.in-Import.layout)) c.import.result _ _ _ _ _ (sym c.command_of.ensures ∙ c.in-Some.is ∙ ap (λ (x : Command). Some x) c.in-Import.is) (c.import.ensures.came _ _)

pub returns-in-Vectors-clause-came : goal.returns-in-Vectors-clause-came
returns-in-Vectors-clause-came g c = came_by (Some Vectors) c.vectors.result _ _ _ _ _ (sym c.command_of.ensures ∙ c.in-Some.is ∙ ap (λ (x : Command). Some x) c.in-Vectors.is) (c.vectors.ensures.came _ _)

pub returns-in-Judge-clause-came : goal.returns-in-Judge-clause-came
returns-in-Judge-clause-came g c = came_by (Some Judge) c.judge.result _ _ _ _ _ (sym c.command_of.ensures ∙ c.in-Some.is ∙ ap (λ (x : Command). Some x) c.in-Judge.is) (c.judge.ensures.came _ _ _)

pub returns-in-Explain-clause-came : goal.returns-in-Explain-clause-came
returns-in-Explain-clause-came g c = came_by (Some Explain) c.explain.result _ _ _ _ _ (sym c.command_of.ensures ∙ c.in-Some.is ∙ ap (λ (x : Command). Some x) c.in-Explain.is) (c.explain.ensures.came _ _)

pub returns-in-Sweep-clause-came : goal.returns-in-Sweep-clause-came
returns-in-Sweep-clause-came g c = came_by (Some (Sweep c.in-Sweep.byte c.in-Sweep.units)) c.sweep.result _ _ _ _ _ (sym c.command_of.ensures ∙ c.in-Some.is ∙ ap (λ (x : Command). Some x) c.in-Sweep.is) (c.sweep.ensures.came _ _ _)

pub returns-in-Check-clause-came : goal.returns-in-Check-clause-came
returns-in-Check-clause-came g c = came_by (Some (Check c.in-Check.said)) c.check.result _ _ _ _ _ (sym c.command_of.ensures ∙ c.in-Some.is ∙ ap (λ (x : Command). Some x) c.in-Check.is) (c.check.ensures.came _ _ _)

pub returns-in-Failures-clause-came : goal.returns-in-Failures-clause-came
returns-in-Failures-clause-came g c =
    came_by (Some (Failures c.in-Failures.ty)) c.failures.result _ _ _ _ _ (sym c.command_of.ensures ∙ c.in-Some.is ∙ ap (λ (x : Command). Some x) c.in-Failures.is) (record { comes = c.failures.ensures.comes _; kept = record { source = (refl, refl); rig = refl; first = refl; second = refl } })
