use Rattle.std.proofs.Common.{◌++◌, codes, ◌∙◌}
use Rattle.hex.specs.Hex.{encode_lower}
use Rattle.report_text.proofs.Written.{as_text, stops_first, wrote_both}
use Rattle.report_text.proofs.Lines.{shown}
use Rattle.report_text.proofs.report.print_shown.Goals as goal

pub returns-in_err-write_all : goal.returns-in_err-write_all
returns-in_err-write_all g c = as_text (shown c.as_slice.result.now c.args.number (encode_lower c.args.bytes.now) (c.as_slice.ensures.value ∙ c.op_front-front.ensures.items))
    (stops_first (encode_lower c.args.bytes.now ++ codes "\n") c.from_residual.result c.from_residual.ensures.0 c.in_err-write_all.ensures)

pub returns-in_err-write_hex : goal.returns-in_err-write_hex
returns-in_err-write_hex g c = as_text (shown c.as_slice.result.now c.args.number (encode_lower c.args.bytes.now) (c.as_slice.ensures.value ∙ c.op_front-front.ensures.items))
    (wrote_both c.from_residual-in_err-write_hex.result c.in_ok-write_all.ensures
    (stops_first (codes "\n") c.from_residual-in_err-write_hex.result c.from_residual-in_err-write_hex.ensures.0 c.in_err-write_hex.ensures))

pub returns : goal.returns
returns g c = as_text (shown c.as_slice.result.now c.args.number (encode_lower c.args.bytes.now) (c.as_slice.ensures.value ∙ c.op_front-front.ensures.items))
    (wrote_both c.write_all-2.result c.in_ok-write_all.ensures (wrote_both c.write_all-2.result c.in_ok-write_hex.ensures c.write_all-2.ensures))
