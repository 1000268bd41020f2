use Rattle.std.proofs.Common.{◌∙◌}
use Rattle.report_text.proofs.Written.{as_text, stops}
use Rattle.flip_sweep.proofs.Ending.{by_sink}
use Rattle.flip_sweep.proofs.sweep.write_row.Goals as goal

pub returns-in_err-write_all-clause-wrote : goal.returns-in_err-write_all-clause-wrote
returns-in_err-write_all-clause-wrote g c = as_text (c.as_slice.ensures.value ∙ c.row.ensures) (stops c.from_residual.result c.from_residual.ensures.0 c.in_err-write_all.ensures)

pub returns-in_err-write_all-clause-sink : goal.returns-in_err-write_all-clause-sink
returns-in_err-write_all-clause-sink g c = by_sink c.from_residual.result c.from_residual.ensures.1
