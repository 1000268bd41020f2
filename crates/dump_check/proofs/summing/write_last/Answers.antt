use Rattle.std.proofs.Common.{◌++◌, ltb, ap, ◌∙◌}
use Rattle.report_text.proofs.Written.{as_text, stops_first, wrote_both}
use Rattle.dump_check.specs.Lines.{count_line, cut_line, is_shifted, last_text, line_if, shift_line}
use Rattle.dump_check.proofs.summing.write_last.Goals as goal

pub returns-in_err-write_all : goal.returns-in_err-write_all
returns-in_err-write_all g c =
    let more = line_if (is_shifted c.args.tally) (shift_line c.args.form c.args.tally) ++ line_if (ltb 0 c.args.rest) (cut_line c.args.form c.args.rest) in
    as_text (ap (λ x. x ++ more) (c.as_slice.ensures.value ∙ c.count_line.ensures)) (stops_first more c.from_residual.result c.from_residual.ensures.0 c.in_err-write_all.ensures)

pub returns : goal.returns
returns g c =
    let more = line_if (is_shifted c.args.tally) (shift_line c.args.form c.args.tally) ++ line_if (ltb 0 c.args.rest) (cut_line c.args.form c.args.rest) in
    as_text (ap (λ x. x ++ more) (c.as_slice.ensures.value ∙ c.count_line.ensures)) (wrote_both c.write_more.result c.in_ok-write_all.ensures c.write_more.ensures)
