use Rattle.std.proofs.Common.{None, Some, refl, sym, ap, ◌∙◌}
use Rattle.call_verdict.specs.Words.{word_bytes}
use Rattle.dix_run.specs.declared.command.Command.{Command}
use Rattle.dix_run.specs.declared.command.Command.TheVariants.{Run, Trace, Format, Migrate, Mirror, Scrub, Nvme, Modes, Big}
use Rattle.dix_run.specs.Commands.{no_command}
use Rattle.dix_run.specs.declared.refusal.Refusal.TheVariants as refusal
use Rattle.dix_run.specs.Verdict.{dix}
use Rattle.dix_run.proofs.Carrying.{carried_by}
use Rattle.call_verdict.proofs.Verdicts.{refused}
use Rattle.dix_run.proofs.Layouts.{few_ops, layout_in}
use Rattle.dix_run.proofs.program.run.Goals as goal

pub big-requires : goal.big-requires
big-requires g c = few_ops (word_bytes c.args.words.now) c.in-Big.n c.in-Big.seed (sym c.command_of.ensures ∙ c.in-Some.is ∙ ap (λ (x : Command). Some x) c.in-Big.is)

pub format-requires : goal.format-requires
format-requires g c = layout_in (word_bytes c.args.words.now) c.in-Format.units (sym c.command_of.ensures ∙ c.in-Some.is ∙ ap (λ (x : Command). Some x) c.in-Format.is)

pub returns-in_default-clause-carries : goal.returns-in_default-clause-carries
returns-in_default-clause-carries g c =
    carried_by None _ _ _ _ _ c.refuse.result (sym c.command_of.ensures ∙ c.in_default.is) (refused dix no_command refusal.Words _ _ _ _ _ c.refuse.result (refl, refl, (refl, refl)) c.refuse.ensures.written)

pub returns-in-Run-clause-carries : goal.returns-in-Run-clause-carries
returns-in-Run-clause-carries g c = carried_by (Some Run) _ _ _ _ _ c.run_image.result (sym c.command_of.ensures ∙ c.in-Some.is ∙ ap (λ (x : Command). Some x) c.in-Run.is) c.run_image.ensures.ended

pub returns-in-Trace-clause-carries : goal.returns-in-Trace-clause-carries
returns-in-Trace-clause-carries g c = carried_by (Some Trace) _ _ _ _ _ c.trace_image.result (sym c.command_of.ensures ∙ c.in-Some.is ∙ ap (λ (x : Command). Some x) c.in-Trace.is) c.trace_image.ensures.ended

pub returns-in-Format-clause-carries : goal.returns-in-Format-clause-carries
returns-in-Format-clause-carries g c = carried_by (Some (Format c.in-Format.units)) _ _ _ _ _ c.format.result (sym c.command_of.ensures ∙ c.in-Some.is ∙ ap (λ (x : Command). Some x) c.in-Format.is) (c.format.ensures.ended (g.S.Source.left c.args.script.now) (g.S.Source.faults c.args.script.now))

pub returns-in-Migrate-clause-carries : goal.returns-in-Migrate-clause-carries
returns-in-Migrate-clause-carries g c = carried_by (Some Migrate) _ _ _ _ _ c.migrate.result (sym c.command_of.ensures ∙ c.in-Some.is ∙ ap (λ (x : Command). Some x) c.in-Migrate.is) (c.migrate.ensures.ended (g.S.Source.left c.args.script.now) (g.S.Source.faults c.args.script.now))

pub returns-in-Mirror-clause-carries : goal.returns-in-Mirror-clause-carries
returns-in-Mirror-clause-carries g c = carried_by (Some Mirror) _ _ _ _ _ c.mirror_image.result (sym c.command_of.ensures ∙ c.in-Some.is ∙ ap (λ (x : Command). Some x) c.in-Mirror.is) c.mirror_image.ensures.ended

pub returns-in-Scrub-clause-carries : goal.returns-in-Scrub-clause-carries
returns-in-Scrub-clause-carries g c = carried_by (Some Scrub) _ _ _ _ _ c.scrub.result (sym c.command_of.ensures ∙ c.in-Some.is ∙ ap (λ (x : Command). Some x) c.in-Scrub.is) (c.scrub.ensures.ended (g.S.Source.left c.args.script.now) (g.S.Source.faults c.args.script.now))

pub returns-in-Nvme-clause-carries : goal.returns-in-Nvme-clause-carries
returns-in-Nvme-clause-carries g c = carried_by (Some Nvme) _ _ _ _ _ c.nvme.result (sym c.command_of.ensures ∙ c.in-Some.is ∙ ap (λ (x : Command). Some x) c.in-Nvme.is) c.nvme.ensures.ended

pub returns-in-Modes-clause-carries : goal.returns-in-Modes-clause-carries
returns-in-Modes-clause-carries g c = carried_by (Some (Modes c.in-Modes.ty)) _ _ _ _ _ c.modes.result (sym c.command_of.ensures ∙ c.in-Some.is ∙ ap (λ (x : Command). Some x) c.in-Modes.is) (c.modes.ensures.ended _ refl (refl, refl))

pub returns-in-Big-clause-carries : goal.returns-in-Big-clause-carries
returns-in-Big-clause-carries g c = carried_by (Some (Big c.in-Big.n c.in-Big.seed)) _ _ _ _ _ c.big.result (sym c.command_of.ensures ∙ c.in-Some.is ∙ ap (λ (x : Command). Some x) c.in-Big.is) (c.big.ensures.ended _ refl (refl, refl))
