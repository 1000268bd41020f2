use Rattle.std.proofs.Common.{rules}
use Rattle.report_text.proofs.Written.{as_text, stops}
use Rattle.image_text.proofs.diff.write_difference.Goals as goal

pub returns-in_err-write_all-clause-wrote : goal.returns-in_err-write_all-clause-wrote
returns-in_err-write_all-clause-wrote g c = as_text (search rules) (stops c.from_residual.result c.from_residual.ensures.0 c.in_err-write_all.ensures)
