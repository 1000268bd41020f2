use Rattle.stack_walk_laws.proofs.Found.{found_there}
use Rattle.stack_walk_laws.proofs.laws.what_was_found_stands_in_its_cell.Goals as goal

pub returns : goal.returns
returns c = found_there
