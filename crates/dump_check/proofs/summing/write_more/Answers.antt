use Rattle.std.proofs.Common.{ltb}
use Rattle.report_text.proofs.Written.{stops_first, wrote_both}
use Rattle.dump_check.specs.Lines.{cut_line, line_if}
use Rattle.dump_check.proofs.summing.write_more.Goals as goal

pub returns-in_err-write_shift : goal.returns-in_err-write_shift
returns-in_err-write_shift g c = stops_first (line_if (ltb 0 c.args.rest) (cut_line c.args.form c.args.rest)) c.from_residual.result c.from_residual.ensures.0 c.in_err-write_shift.ensures

pub returns : goal.returns
returns g c = wrote_both c.write_cut.result c.in_ok-write_shift.ensures c.write_cut.ensures
