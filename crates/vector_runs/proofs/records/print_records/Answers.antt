use Rattle.std.proofs.Common.{drop, Ok}
use Rattle.vector_runs.specs.RecordText.{records_text}
use Rattle.report_text.proofs.Written.{flushed, stops, stops_first, wrote_both}
use Rattle.vector_runs.proofs.records.print_records.Goals as goal

pub returns-in_err-write_first-clause-wrote : goal.returns-in_err-write_first-clause-wrote
returns-in_err-write_first-clause-wrote g c = stops_first (records_text (drop c.args.from (g.R.Rig.state c.args.rig.now).log)) c.from_residual.result c.from_residual.ensures.0 c.in_err-write_first.ensures

pub returns-in_err-write_records-clause-wrote : goal.returns-in_err-write_records-clause-wrote
returns-in_err-write_records-clause-wrote g c =
    let r = c.from_residual-in_err-write_records.result in
    wrote_both r c.in_ok-write_first.ensures (stops r c.from_residual-in_err-write_records.ensures.0 c.in_err-write_records.ensures)

pub returns-clause-wrote : goal.returns-clause-wrote
returns-clause-wrote g c = flushed c.flush.result (wrote_both (Ok _) c.in_ok-write_first.ensures c.in_ok-write_records.ensures) c.flush.ensures.same c.flush.ensures.calm c.flush.ensures.cause c.flush.ensures.count
