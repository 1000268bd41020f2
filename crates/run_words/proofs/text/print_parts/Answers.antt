use Rattle.run_words.specs.Texts.{all_listed}
use Rattle.report_text.proofs.Written.{stops_first, wrote_both}
use Rattle.run_words.proofs.text.print_parts.Goals as goal

pub returns-in_err-print_records : goal.returns-in_err-print_records
returns-in_err-print_records g c = stops_first (all_listed c.args.entries.now 1 c.args.sites.now c.args.replies.now) c.from_residual.result c.from_residual.ensures.0 c.in_err-print_records.ensures

pub returns : goal.returns
returns g c = wrote_both c.print_all_listed.result c.in_ok-print_records.ensures c.print_all_listed.ensures
