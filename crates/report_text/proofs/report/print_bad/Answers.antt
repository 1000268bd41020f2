use Rattle.std.proofs.Common.{◌++◌, ap, ◌∙◌}
use Rattle.report_text.specs.Report.{bad_lines}
use Rattle.report_text.proofs.Written.{as_text, stops_first, wrote_both}
use Rattle.report_text.proofs.report.print_bad.Goals as goal

pub returns-in_err-write_all : goal.returns-in_err-write_all
returns-in_err-write_all g c = as_text (ap (λ t. t ++ bad_lines c.args.number c.args.blocks.now) (c.as_slice.ensures.value ∙ c.bad_front-front.ensures))
    (stops_first (bad_lines c.args.number c.args.blocks.now) c.from_residual.result c.from_residual.ensures.0 c.in_err-write_all.ensures)

pub returns : goal.returns
returns g c = as_text (ap (λ t. t ++ bad_lines c.args.number c.args.blocks.now) (c.as_slice.ensures.value ∙ c.bad_front-front.ensures))
    (wrote_both c.print_blocks.result c.in_ok-write_all.ensures c.print_blocks.ensures)
