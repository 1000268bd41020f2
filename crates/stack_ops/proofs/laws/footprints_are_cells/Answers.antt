use Rattle.stack_ops.proofs.Sides.{cells_are}
use Rattle.stack_ops.proofs.laws.footprints_are_cells.Goals as goal

pub returns : goal.returns
returns c = cells_are
