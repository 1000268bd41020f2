use Rattle.pi_blocks.proofs.StayLaws.{stay_fine}
use Rattle.pi_blocks.proofs.laws.mapped_blocks_stay_fine.Goals as goal

pub returns : goal.returns
returns c = stay_fine
