use Rattle.pi_blocks.proofs.Seeing.{described-tells}
use Rattle.pi_blocks.proofs.laws.a_described_sense_is_found.Goals as goal

pub returns : goal.returns
returns c = described-tells
