use Rattle.std.proofs.Common.{rules}
use Rattle.report_text.proofs.Written.{as_text, stops}
use Rattle.dump_check.proofs.lines.write_block.Goals as goal

pub returns-in_err-write_all-clause-wrote : goal.returns-in_err-write_all-clause-wrote
returns-in_err-write_all-clause-wrote g c = as_text (search rules) (stops c.from_residual.result c.from_residual.ensures.0 c.in_err-write_all.ensures)
