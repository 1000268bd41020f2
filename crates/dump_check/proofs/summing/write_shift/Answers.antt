use Rattle.std.proofs.Common.{◌∙◌, sym}
use Rattle.report_text.proofs.Written.{as_text}
use Rattle.dump_check.specs.Lines.{is_shifted}
use Rattle.dump_check.proofs.Pieces.{shown_if}
use Rattle.dump_check.proofs.summing.write_shift.Goals as goal

pub returns : goal.returns
returns g c = as_text (c.as_slice.ensures.value ∙ c.shift_line.ensures ∙ shown_if (is_shifted c.args.tally) _ (sym c.is_shifted.ensures ∙ c.if-not-is_shifted.false)) c.write_all.ensures
