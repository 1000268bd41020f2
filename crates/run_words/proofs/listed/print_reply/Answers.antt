use Rattle.std.proofs.Common.{sym, ap, ◌∙◌}
use Rattle.stack_ops.specs.declared.reply.Reply.TheVariants.{Bad}
use Rattle.run_words.specs.Texts.{reply_lines}
use Rattle.report_text.proofs.Written.{as_text}
use Rattle.run_words.proofs.listed.print_reply.Goals as goal

pub returns-in-Bad : goal.returns-in-Bad
returns-in-Bad g c = as_text (ap (λ bs. reply_lines c.args.entries.now c.args.number c.args.site (Bad bs)) c.as_slice.ensures ∙ ap (reply_lines c.args.entries.now c.args.number c.args.site) (sym c.in-Bad.is)) c.print_listed.ensures
