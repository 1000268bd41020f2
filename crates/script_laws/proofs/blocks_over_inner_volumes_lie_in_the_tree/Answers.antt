use Rattle.script_laws.proofs.OverLines.{over_places}
use Rattle.script_laws.proofs.blocks_over_inner_volumes_lie_in_the_tree.Goals as goal

pub returns : goal.returns
returns c = over_places
