use Rattle.std.proofs.Common.{◌++◌, refl, ◌∙◌}
use Rattle.hex.specs.Hex.{encode_lower}
use Rattle.report_text.specs.Trace.{end_text}
use Rattle.report_text.proofs.Written.{as_text, stops_first, wrote_both}
use Rattle.report_text.proofs.Lines.{traced}
use Rattle.report_text.proofs.trace.print_record.Goals as goal

pub returns-in_err-write_all : goal.returns-in_err-write_all
returns-in_err-write_all g c = as_text (traced c.as_slice.result.now c.args.what.now.cdb (end_text c.args.what.now.outcome) c.args.what.now (c.as_slice.ensures.value ∙ c.front_of.ensures) refl refl)
    (stops_first (encode_lower c.args.what.now.cdb ++ end_text c.args.what.now.outcome) c.from_residual.result c.from_residual.ensures.0 c.in_err-write_all.ensures)

pub returns-in_err-write_hex : goal.returns-in_err-write_hex
returns-in_err-write_hex g c =
    as_text (traced c.as_slice.result.now c.as_slice-2.result.now (end_text c.args.what.now.outcome) c.args.what.now (c.as_slice.ensures.value ∙ c.front_of.ensures) c.as_slice-2.ensures refl)
    (wrote_both c.from_residual-in_err-write_hex.result c.in_ok-write_all.ensures
    (stops_first (end_text c.args.what.now.outcome) c.from_residual-in_err-write_hex.result c.from_residual-in_err-write_hex.ensures.0 c.in_err-write_hex.ensures))

pub returns : goal.returns
returns g c =
    as_text (traced c.as_slice.result.now c.as_slice-2.result.now c.as_slice-3.result.now c.args.what.now (c.as_slice.ensures.value ∙ c.front_of.ensures) c.as_slice-2.ensures (c.as_slice-3.ensures.value ∙ c.end_of.ensures))
    (wrote_both c.write_all-2.result c.in_ok-write_all.ensures (wrote_both c.write_all-2.result c.in_ok-write_hex.ensures c.write_all-2.ensures))
