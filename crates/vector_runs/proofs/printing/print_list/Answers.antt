use Rattle.std.proofs.Common.{drop, Ok}
use Rattle.vector_runs.specs.ListText.{lines_text}
use Rattle.report_text.proofs.Written.{flushed, stops, stops_first, wrote_both}
use Rattle.vector_runs.proofs.printing.print_list.Goals as goal

pub returns-in_err-write_first-clause-wrote : goal.returns-in_err-write_first-clause-wrote
returns-in_err-write_first-clause-wrote g c = stops_first (lines_text c.args.lines.now (drop c.args.from (g.R.Rig.state c.args.rig.now).log)) c.from_residual.result c.from_residual.ensures.0 c.in_err-write_first.ensures

pub returns-in_err-write_lines-clause-wrote : goal.returns-in_err-write_lines-clause-wrote
returns-in_err-write_lines-clause-wrote g c =
    let r = c.from_residual-in_err-write_lines.result in
    wrote_both r c.in_ok-write_first.ensures (stops r c.from_residual-in_err-write_lines.ensures.0 c.in_err-write_lines.ensures)

pub returns-clause-wrote : goal.returns-clause-wrote
returns-clause-wrote g c = flushed c.flush.result (wrote_both (Ok _) c.in_ok-write_first.ensures c.in_ok-write_lines.ensures) c.flush.ensures.same c.flush.ensures.calm c.flush.ensures.cause c.flush.ensures.count
