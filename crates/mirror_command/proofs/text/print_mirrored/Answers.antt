use Rattle.mirror_command.specs.Texts.{repair_line}
use Rattle.report_text.proofs.Written.{stops_first, wrote_both}
use Rattle.mirror_command.proofs.text.print_mirrored.Goals as goal

pub returns-in_err-print_report-clause-wrote : goal.returns-in_err-print_report-clause-wrote
returns-in_err-print_report-clause-wrote g c =
    stops_first (repair_line c.args.run.now.repair.repaired c.args.run.now.repair.lost) c.from_residual.result c.from_residual.ensures.0 (rw c.replies.ensures at c.in_err-print_report.ensures.wrote)

pub returns-clause-wrote : goal.returns-clause-wrote
returns-clause-wrote g c =
    wrote_both c.write_out.result (rw c.replies.ensures at c.in_ok-print_report.ensures.wrote) (rw (c.as_slice.ensures.value, c.repair_line.ensures) at c.write_out.ensures.wrote)
