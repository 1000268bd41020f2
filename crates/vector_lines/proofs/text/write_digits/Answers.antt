use Rattle.hex.specs.Hex.{encode_lower}
use Rattle.report_text.proofs.Written.{stops_first, wrote_both}
use Rattle.vector_lines.proofs.text.write_digits.Goals as goal

pub returns-in_err-write_all : goal.returns-in_err-write_all
returns-in_err-write_all g c = stops_first (encode_lower c.args.bytes.now) c.from_residual.result c.from_residual.ensures.0 c.in_err-write_all.ensures

pub returns : goal.returns
returns g c = wrote_both c.write_hex.result c.in_ok-write_all.ensures c.write_hex.ensures
