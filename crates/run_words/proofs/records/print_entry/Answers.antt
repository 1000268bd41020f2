use Rattle.run_words.specs.Texts.{run_lines, runs_of}
use Rattle.report_text.proofs.Written.{stops_first, wrote_both}
use Rattle.run_words.proofs.records.print_entry.Goals as goal

pub returns-in_err-print_command : goal.returns-in_err-print_command
returns-in_err-print_command g c = stops_first (run_lines c.args.sites.now (runs_of c.args.labels.now)) c.from_residual.result c.from_residual.ensures.0 c.in_err-print_command.ensures

pub returns : goal.returns
returns g c = wrote_both c.print_runs.result c.in_ok-print_command.ensures c.print_runs.ensures
