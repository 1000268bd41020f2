use Rattle.report_text.proofs.Written.{stops}
use Rattle.flip_sweep.proofs.Ending.{by_sink}
use Rattle.flip_sweep.proofs.sweep.write_text.Goals as goal

pub returns-in_err-write_all-clause-wrote : goal.returns-in_err-write_all-clause-wrote
returns-in_err-write_all-clause-wrote g c = stops c.from_residual.result c.from_residual.ensures.0 c.in_err-write_all.ensures

pub returns-in_err-write_all-clause-sink : goal.returns-in_err-write_all-clause-sink
returns-in_err-write_all-clause-sink g c = by_sink c.from_residual.result c.from_residual.ensures.1
