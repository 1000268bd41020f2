use Rattle.std.proofs.Common.{◌∙◌, ltb, rules}
use Rattle.report_text.proofs.Written.{as_text}
use Rattle.dump_check.proofs.Pieces.{shown_if}
use Rattle.dump_check.proofs.summing.write_cut.Goals as goal

pub returns : goal.returns
returns g c = as_text (c.as_slice.ensures.value ∙ c.cut_line.ensures ∙ shown_if (ltb 0 c.args.rest) _ (search rules)) c.write_all.ensures
