use Rattle.std.proofs.Common.{sym, ap, ◌∙◌}
use Rattle.stack_ops.specs.declared.reply.Reply.TheVariants.{Bad}
use Rattle.report_text.specs.Report.{lines_of}
use Rattle.report_text.proofs.Written.{as_text, wrote_none}
use Rattle.report_text.proofs.report.print_reply.Goals as goal

pub returns-in-Bad : goal.returns-in-Bad
returns-in-Bad g c = as_text (ap (λ bs. lines_of c.args.number (Bad bs)) c.as_slice-in-Bad.ensures ∙ ap (lines_of c.args.number) (sym c.in-Bad.is)) c.print_bad.ensures

pub returns-in-Silent : goal.returns-in-Silent
returns-in-Silent g c = as_text (ap (lines_of c.args.number) (sym c.in-Silent.is)) (wrote_none _)
