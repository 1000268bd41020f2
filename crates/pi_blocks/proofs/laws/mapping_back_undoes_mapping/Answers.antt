use Rattle.pi_blocks.proofs.MapLaws.{undone}
use Rattle.pi_blocks.proofs.laws.mapping_back_undoes_mapping.Goals as goal

pub returns : goal.returns
returns c = undone
