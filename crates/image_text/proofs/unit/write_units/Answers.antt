use Rattle.image_text.specs.UnitText.{unit_lines}
use Rattle.report_text.proofs.Written.{stops_first, wrote_both}
use Rattle.image_text.proofs.unit.write_units.Goals as goal

pub returns-in_err-write_first : goal.returns-in_err-write_first
returns-in_err-write_first g c = stops_first (unit_lines 0 c.args.units.now) c.from_residual.result c.from_residual.ensures.0 c.in_err-write_first.ensures

pub returns : goal.returns
returns g c = wrote_both c.write_lines.result c.in_ok-write_first.ensures c.write_lines.ensures
