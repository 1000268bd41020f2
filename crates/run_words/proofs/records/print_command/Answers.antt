use Rattle.std.proofs.Common.{◌++◌, refl, ◌∙◌}
use Rattle.run_words.specs.Commands.{cdb_words, outcome_words}
use Rattle.run_words.proofs.Lines.{command_parts}
use Rattle.report_text.proofs.Written.{as_text, stops_first, wrote_both}
use Rattle.run_words.proofs.records.print_command.Goals as goal

pub returns-in_err-write_all : goal.returns-in_err-write_all
returns-in_err-write_all g c = as_text (command_parts c.as_slice.result.now c.args.what.now.cdb (outcome_words c.args.what.now.outcome) c.args.number c.args.what.now (c.as_slice.ensures.value ∙ c.front_of.ensures) refl refl)
    (stops_first (cdb_words c.args.what.now.cdb ++ outcome_words c.args.what.now.outcome) c.from_residual.result c.from_residual.ensures.0 c.in_err-write_all.ensures)

pub returns-in_err-print_cdb : goal.returns-in_err-print_cdb
returns-in_err-print_cdb g c =
    let r = c.from_residual-in_err-print_cdb.result in
    as_text (command_parts c.as_slice.result.now c.as_slice-2.result.now (outcome_words c.args.what.now.outcome) c.args.number c.args.what.now (c.as_slice.ensures.value ∙ c.front_of.ensures) c.as_slice-2.ensures refl)
    (wrote_both r c.in_ok-write_all.ensures (stops_first (outcome_words c.args.what.now.outcome) r c.from_residual-in_err-print_cdb.ensures.0 c.in_err-print_cdb.ensures))

pub returns : goal.returns
returns g c =
    as_text (command_parts c.as_slice.result.now c.as_slice-2.result.now c.as_slice-3.result.now c.args.number c.args.what.now (c.as_slice.ensures.value ∙ c.front_of.ensures) c.as_slice-2.ensures (c.as_slice-3.ensures.value ∙ c.outcome_line.ensures))
    (wrote_both c.write_all-2.result c.in_ok-write_all.ensures (wrote_both c.write_all-2.result c.in_ok-print_cdb.ensures c.write_all-2.ensures))
