use Rattle.std.proofs.Common.{rules}
use Rattle.report_text.proofs.Written.{as_text, stops}
use Rattle.flip_sweep.proofs.Ending.{by_sink, passed_on}
use Rattle.flip_sweep.proofs.sweep.go_on.Goals as goal

pub returns-in_err-write_row-clause-wrote : goal.returns-in_err-write_row-clause-wrote
returns-in_err-write_row-clause-wrote g c = as_text (search rules) (stops c.from_residual.result c.from_residual.ensures.0 c.in_err-write_row.ensures.wrote)

pub returns-in_err-write_row-clause-sink : goal.returns-in_err-write_row-clause-sink
returns-in_err-write_row-clause-sink g c = by_sink c.from_residual.result (passed_on c.from_residual.result c.in_err-write_row.field-0.0 c.from_residual.ensures.1 c.in_err-write_row.ensures.sink)
