use Rattle.std.proofs.Common.{ap}
use Rattle.image_text.specs.UnitText.{units_text}
use Rattle.report_text.proofs.Written.{as_text, flushed, stops}
use Rattle.image_text.proofs.units.show_units.Goals as goal

pub returns-in_err-write_units-clause-wrote : goal.returns-in_err-write_units-clause-wrote
returns-in_err-write_units-clause-wrote g c = as_text (ap units_text c.units.ensures) (stops c.from_residual.result c.from_residual.ensures.0 c.in_err-write_units.ensures)

pub returns-clause-wrote : goal.returns-clause-wrote
returns-clause-wrote g c =
    as_text (ap units_text c.units.ensures) (flushed c.flush.result c.in_ok-write_units.ensures c.flush.ensures.same c.flush.ensures.calm c.flush.ensures.cause c.flush.ensures.count)
